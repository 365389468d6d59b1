-- Saving and loading undo each other. A load of what a save wrote gives the state and the memory back, for every state and
-- memory that the save does not refuse. A save of what a load gave writes the same bytes again, for every head and image that
-- the load does not refuse. What is valid is said nowhere but there: not refused.
-- Assumes nothing.
use Prim.Native.Nat.{ℕ, ◌%◌, ◌≤◌}
use mathlib.Core.List.{List, [], ◌∷◌, ◌++◌, append-nil}
use mathlib.Core.Path.{◌≡◌, refl, sym, ap, ◌∙◌}
use native.Mathlib.Omega.{arith}
use lib.Dec.{lit<}
use lib.ListN.{length, take, drop, take-append-drop, length-drop}
use lib.Seq.{take_all}
use Rattle.arith.specs.Refusals.{unless_refused}
use Rattle.machine.specs.Memory.{memory_size}
use Rattle.machine.specs.declared.Cpu.{Cpu}
use Rattle.machine.proofs.Sound.{Sound}
use Rattle.digits.specs.Digits.{worth_of, digits_of, number_of, bytes_of, byte_in, number_in}
use Rattle.saved.specs.Block.{block_size, block_of, flags_in, held_in}
use Rattle.saved.specs.Head.{head_size, image_size, head_of, image_of, memory_in}
use Rattle.saved.specs.Head.{version_in, block_size_in, block_in, memory_size_in, state_in}
use Rattle.saved.specs.Refusals.{Accepted}
use Rattle.saved.specs.Answers.{state_if, memory_if, loaded_by, load_of, load_head_of, open_of, left_by, saved_by, save_head_of, save_image_of}
use Rattle.digits.proofs.Digits.{digits_below, below_more, below_append}
use Rattle.saved.proofs.Blocks.{held_back, has_codes_lem, held_flags, block_back, held_sound, block_bytes}
use Rattle.digits.proofs.Places.{ByteList, bytes_back_lem, bytes_at, part_bytes, bytes_at_length, bytes_at_below}
use Rattle.saved.proofs.Accepted.{Right, accepted_right, right_accepted, accepted_head_fits, accepted_image_fits, head_fits_accepted, image_fits_accepted}
use Rattle.saved.proofs.Written.{head_length, image_length}

-- opens the layout of a head, written and read
unfoldable layout : Unit {0}
unfolding worth_of digits_of number_of bytes_of block_of head_of byte_in number_in version_in block_size_in block_in memory_size_in state_in memory_in
layout = tt

-- a head that is made from a state, with anything behind it

module _ (s : Cpu) (behind : List ℕ) where
  made_block : block_in (head_of s ++ behind) ≡ block_of s
  unfolding layout
  made_block = refl

  made_right : (size : ℕ) → length (head_of s ++ behind) ≡ size → s.f % 16 ≡ 0 → Right size (head_of s ++ behind)
  unfolding layout
  made_right size p q =
      record {
        size_is = p;
        version_is = refl;
        block_is = refl;
        memory_is = refl;
        has_codes = has_codes_lem s;
        flags_low = rw (held_flags s) q;
      }

  made_state : Sound s → state_in (head_of s ++ behind) ≡ s
  unfolding state_in
  made_state p = rw made_block (held_back s p)

  made_memory : memory_in (head_of s ++ behind) ≡ behind
  unfolding layout
  made_memory = refl

  made_load : (size : ℕ) → length (head_of s ++ behind) ≡ size → s.f % 16 ≡ 0 → Sound s
      → load_of size (head_of s ++ behind) ≡ record { code = 0; cpu = s }
  unfolding load_of loaded_by state_if unless_refused
  made_load size p q sound = rw (right_accepted size _ (made_right size p q), made_state sound)

-- a head that is read, and made again from the state that was read

read_flags : (h : List ℕ) → (state_in h).f ≡ flags_in (block_in h)
unfolding state_in held_in
read_flags h = refl

read_block : (h : List ℕ) → head_size ≤ length h → block_in h ≡ bytes_at block_size 5 h
unfolding block_in
read_block h long = part_bytes block_size 5 h (omega arith)

-- the block of the state that was read is the block that is there
block_again : (size : ℕ) (h : List ℕ) → head_size ≤ length h → ByteList h → Right size h
    → block_of (state_in h) ≡ bytes_at block_size 5 h
unfolding state_in
block_again size h long bytes right =
    let there = read_block h long in
    rw there (block_back _ (bytes_at_length block_size 5 h) (bytes_at_below block_size 5 h bytes) (rw there at right.has_codes))

made_again : (size : ℕ) (h : List ℕ) → head_size ≤ length h → ByteList h → Right size h → head_of (state_in h) ≡ take head_size h
unfolding head_of version_in block_size_in memory_size_in byte_in bytes_at
made_again size h long bytes right =
    let version = sym right.version_is in
    let lengths = ap (bytes_of 4) (sym right.block_is) ∙ bytes_back_lem 4 1 h (omega arith) bytes in
    let block = block_again size h long bytes right in
    let memory = ap (bytes_of 4) (sym right.memory_is) ∙ bytes_back_lem 4 19 h (omega arith) bytes in
    (λ i. version i ∷ (lengths i ++ (block i ++ memory i))) ∙ sym (part_bytes head_size 0 h long)

-- a load of a save gives the state back

pub loaded_as_saved : (s : Cpu) (h : List ℕ) → Sound s → Accepted (save_head_of s h).out
    → load_head_of (save_head_of s h).mem ≡ record { code = 0; cpu = s }
unfolding save_head_of saved_by left_by load_head_of unless_refused
loaded_as_saved s h sound accepted =
    let fits = accepted_head_fits s h accepted in
    let whole = append-nil (head_of s) in
    let size = ap length whole ∙ head_length s in
    rw accepted (rw whole at (made_load s [] head_size size fits.flags_low sound))

-- and of an image the memory too

pub opened_as_saved : (s : Cpu) (m image : List ℕ) → Sound s → Accepted (save_image_of s m image).out
    → open_of (save_image_of s m image).mem ≡ record { out = record { code = 0; cpu = s }; mem = m }
unfolding save_image_of saved_by left_by image_of open_of memory_if unless_refused
opened_as_saved s m image sound accepted =
    let fits = accepted_image_fits s m image accepted in
    let size = image_length s m fits.memory_is in
    let right = made_right s m image_size size fits.flags_low in
    rw (accepted, made_load s m image_size size fits.flags_low sound, right_accepted _ _ right, made_memory s m)

-- a save of a load writes the same head again

pub saved_as_loaded : (h old : List ℕ) → ByteList h → Accepted (load_head_of h).code → length old ≡ head_size
    → save_head_of (load_head_of h).cpu old ≡ record { out = 0; mem = h }
unfolding load_head_of load_of loaded_by state_if save_head_of saved_by left_by unless_refused
saved_as_loaded h old bytes accepted size =
    let right = accepted_right head_size h accepted in
    let fits = head_fits_accepted (state_in h) old (record { size_is = size; flags_low = rw read_flags right.flags_low }) in
    let long : head_size ≤ length h = omega (arith, right.size_is) in
    let short : length h ≤ head_size = omega (arith, right.size_is) in
    rw (accepted, fits, made_again head_size h long bytes right, take_all head_size h short)

-- and the same image

pub saved_as_opened : (image old : List ℕ) → ByteList image → Accepted (open_of image).out.code → length old ≡ image_size
    → save_image_of (open_of image).out.cpu (open_of image).mem old ≡ record { out = 0; mem = image }
unfolding open_of load_of loaded_by state_if memory_if memory_in save_image_of saved_by left_by image_of unless_refused
saved_as_opened image old bytes accepted size =
    let right = accepted_right image_size image accepted in
    let long : head_size ≤ length image = omega (arith, right.size_is) in
    let memory : length (drop head_size image) ≡ memory_size = rw (length-drop head_size image, right.size_is) in
    let fits =
    image_fits_accepted (state_in image) (drop head_size image) old
    (record { size_is = size; memory_is = memory; flags_low = rw read_flags right.flags_low }) in
    rw (accepted, fits, made_again image_size image long bytes right, take-append-drop)

-- what is saved is bytes, and what is loaded is a state as the code holds one

pub saved_bytes : (s : Cpu) → Sound s → ByteList (head_of s)
unfolding head_of bytes_of
saved_bytes s p =
    below_more (lit< tt)
    (below_append _ (digits_below (lit< tt) 4 block_size)
    (below_append _ (block_bytes s p) (digits_below (lit< tt) 4 memory_size)))

pub loaded_sound : (h : List ℕ) → head_size ≤ length h → ByteList h → Sound (state_in h)
unfolding state_in
loaded_sound h long bytes =
    rw (read_block h long)
    (held_sound _ (bytes_at_below block_size 5 h bytes))
