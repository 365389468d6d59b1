-- What the copies of a save leave: a head and an image of the right length are written whole.
-- Assumes nothing.
use Prim.Native.Nat.{ℕ, ◌-◌, ◌≤◌}
use mathlib.Core.List.{List, ◌++◌, append-nil}
use mathlib.Core.Path.{◌≡◌, refl}
use native.Mathlib.Omega.{arith}
use borrow.Author.Rules.{part_to_end}
use borrow.Rule.Slice.PartMut.{put_mid}
use lib.ListN.{length, take, drop, length-append, length-drop, drop_of_length-le}
use lib.Seq.{take_at, drop_at}
use Rattle.machine.specs.Memory.{memory_size}
use Rattle.machine.specs.declared.Cpu.{Cpu}
use Rattle.digits.specs.Digits.{bytes_of, digits_of}
use Rattle.saved.specs.Block.{block_of}
use Rattle.saved.specs.Head.{head_size, image_size, head_of, image_of}

pub head_length : (s : Cpu) → length (head_of s) ≡ head_size
unfolding head_of block_of bytes_of digits_of
head_length s = refl

pub image_length : (s : Cpu) (m : List ℕ) → length m ≡ memory_size → length (image_of s m) ≡ image_size
unfolding image_of
image_length s m p = rw (length-append, head_length s, p)

-- bytes that are copied over as many leave nothing of what was there
copied_over : (new old : List ℕ) → length old ≤ length new → new ++ drop (length new) old ≡ new
copied_over new old p = rw (drop_of_length-le old p, append-nil)

pub head_written : (s : Cpu) (h : List ℕ) → length h ≡ head_size → head_of s ++ drop (length (head_of s)) h ≡ head_of s
head_written s h p = copied_over (head_of s) h (omega (arith, head_length s))

-- bytes that are written from a place to the end leave what stands before it
pub put_to_end : (at : ℕ) (old new : List ℕ) → put_mid at (length old - at) old new ≡ take at old ++ new
put_to_end at old new =
    rw (drop_of_length-le (drop at old) {i = length old - at} (rw length-drop (omega arith)), append-nil)

-- an image once the head is written, and the part of it behind the head
abbrev pub headed : Cpu → List ℕ → List ℕ
headed s image = head_of s ++ drop (length (head_of s)) image

abbrev pub behind : Cpu → List ℕ → List ℕ
behind s image = take (length (headed s image) - head_size) (drop head_size (headed s image))

-- the bytes of a head, copied over the front of an image
pub headed_by : (s : Cpu) (made image : List ℕ) → made ≡ head_of s → made ++ drop head_size image ≡ headed s image
headed_by s made image e = rw (e, head_length s)

module _ (s : Cpu) (m image : List ℕ) (size : length image ≡ image_size) (memory : length m ≡ memory_size) where
  pub behind_length : length (behind s image) ≡ memory_size
  behind_length =
      let rest = drop_at (head_of s) (drop (length (head_of s)) image) head_size (head_length s) in
      rw (part_to_end (headed s image) head_size, rest, head_length s) (simp length-drop (omega arith))

  -- once the memory is written into that part, the image is whole
  pub image_written : put_mid head_size (length (headed s image) - head_size) (headed s image) (m ++ drop (length m) (behind s image))
      ≡ image_of s m
  unfolding image_of
  image_written =
      rw (
        copied_over m (behind s image) (omega (arith, behind_length, memory)),
        put_to_end head_size (headed s image) m,
        take_at (head_of s) (drop (length (head_of s)) image) head_size (head_length s),
      )

  -- so is it once a memory just as long as the part is copied over it
  pub memory_written : put_mid head_size (length (headed s image) - head_size) (headed s image) m ≡ image_of s m
  memory_written = rw (copied_over m (behind s image) (omega (arith, behind_length, memory))) at image_written
