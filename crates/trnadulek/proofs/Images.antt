-- A run of an image where it lies: its memory is lent out and comes back, and then the head is written before it.
-- Assumes nothing.
use Prim.Native.Nat.{ℕ, ◌-◌, ◌%◌, ◌≤◌}
use mathlib.Core.List.{List, ◌++◌}
use mathlib.Core.Logic.{◌≢◌}
use mathlib.Core.Path.{◌≡◌, refl, sym, ◌∙◌}
use native.Mathlib.Omega.{arith}
use borrow.Author.Rules.{part_to_end}
use borrow.Rule.Slice.PartMut.{put_mid}
use lib.ListN.{length, take, drop, length-append}
use lib.Seq.{length-take-le, take_at, drop_at}
use Rattle.arith.specs.Refusals.{unless_refused}
use Rattle.machine.specs.Answers.{Gives}
use Rattle.machine.specs.Run.{Ran, run_of}
use Rattle.machine.specs.declared.Cpu.{Cpu}
use Rattle.saved.specs.Head.{head_size, image_size, head_of, image_of, state_in, memory_in}
use Rattle.saved.specs.Refusals.{Accepted, load_code}
use Rattle.saved.specs.Answers.{Loaded, open_of, load_of, loaded_by, state_if, save_head_of, saved_by, left_by}
use Rattle.saved.proofs.Accepted.{accepted_right, head_fits_accepted}
use Rattle.saved.proofs.Refused.{refused_by_lem}
use Rattle.saved.proofs.Written.{put_to_end}
use Rattle.trnadulek.specs.Calls.{ImageGives, image_ran, run_image_if, run_image_of}
use Rattle.trnadulek.proofs.Flags.{loads_low, run_low}

-- the part that is lent, and the image once other bytes have come back in its place
abbrev pub lent : List ℕ → List ℕ
lent image = take (length image - head_size) (drop head_size image)

abbrev pub returned : List ℕ → List ℕ → List ℕ
returned image m = put_mid head_size (length image - head_size) image m

module _ (image m : List ℕ) (long : head_size ≤ length image) where
  front : length (take head_size image) ≡ head_size
  front = length-take-le head_size image long

  -- the head is as it was
  pub front_length : length (take head_size (returned image m)) ≡ head_size
  front_length = rw (take_at (take head_size image) _ head_size front) front

  pub head_room : head_size ≤ length (returned image m)
  head_room = rw length-append (omega (arith, front))

  -- and the memory is what came back
  pub memory_left : drop head_size (returned image m) ≡ m
  memory_left = rw (put_to_end head_size image m) (drop_at (take head_size image) m head_size front)

module _ (image : List ℕ) (l : Loaded) (opened : l ≡ (open_of image).out) where
  code_is : l.code ≡ load_code image_size image
  unfolding open_of load_of loaded_by
  code_is = rw opened

  pub no_run : (b : ℕ) → l.code ≢ 0 → ImageGives (run_image_of b image) l.code image 0 0
  unfolding run_image_of run_image_if
  no_run b p =
      rw (← code_is, refused_by_lem l.code _ _ p)
      (record { answers = refl; leaves_image = refl; leaves_spent = refl; leaves_steps = refl })

  module _ (accepted : l.code ≡ 0) where
    opens : Accepted (load_code image_size image)
    opens = sym code_is ∙ accepted

    pub size_is : length image ≡ image_size
    size_is = (accepted_right image_size image opens).size_is

    state_is : l.cpu ≡ state_in image
    unfolding open_of load_of loaded_by state_if unless_refused
    state_is = rw (opened, opens)

    -- the head of a valid state is written
    written : (s : Cpu) (old : List ℕ) (r : ℕ) (h : List ℕ) → length old ≡ head_size → s.f % 16 ≡ 0
        → Gives (save_head_of s old) r h → h ≡ head_of s
    unfolding save_head_of saved_by left_by unless_refused
    written s old r h size p saved =
        rw (head_fits_accepted s old (record { size_is = size; flags_low = p })) at saved.leaves

    pub image_run : (b : ℕ) (w : Ran) (m h : List ℕ) (r : ℕ) → Gives (run_of b l.cpu (lent image)) w m
        → Gives (save_head_of w.cpu (take head_size (returned image m))) r h
        → ImageGives (run_image_of b image) w.code (h ++ drop head_size (returned image m)) w.spent w.steps
    unfolding run_image_of run_image_if image_ran image_of memory_in unless_refused
    image_run b w m h r ran saved =
        let long : head_size ≤ length image = omega (arith, size_is) in
        let now = rw (state_is, part_to_end image head_size) at ran in
        let low : w.cpu.f % 16 ≡ 0 =
        rw now.answers (run_low b (state_in image) (drop head_size image) (loads_low image_size image opens)) in
        let head = written w.cpu _ r h (front_length image m long) low saved in
        rw opens
        (record {
          answers = rw now.answers;
          leaves_image = rw (head, memory_left image m long, now.leaves, now.answers);
          leaves_spent = rw now.answers;
          leaves_steps = rw now.answers;
        })
