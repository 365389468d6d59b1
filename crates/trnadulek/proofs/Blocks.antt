-- A load and a save through a state block undo each other, of heads and of images.
-- Assumes nothing.
use Prim.Native.Nat.{ℕ, ◌≤◌}
use mathlib.Core.Bool.{Bool, true, false}
use mathlib.Core.List.{List}
use mathlib.Core.Path.{◌≡◌, refl, ap}
use native.Mathlib.Omega.{arith}
use borrow.Author.Tests.{eqb-false}
use lib.ListN.{length}
use Rattle.arith.specs.Refusals.{unless_refused}
use Rattle.machine.specs.Answers.{With, Gives, keeping}
use Rattle.machine.proofs.Sound.{Sound}
use Rattle.saved.specs.Block.{block_size, block_of, held_in, has_codes}
use Rattle.saved.specs.Head.{head_size, image_size}
use Rattle.saved.specs.Answers.{Loaded, load_head_of, load_of, loaded_by, state_if, open_of}
use Rattle.saved.specs.Refusals.{Accepted}
use Rattle.saved.proofs.Accepted.{accepted_right}
use Rattle.digits.proofs.Places.{ByteList}
use Rattle.saved.proofs.Blocks.{held_back, has_codes_lem, block_back, held_sound}
use Rattle.saved.proofs.RoundTrip.{loaded_as_saved, opened_as_saved, saved_as_loaded, saved_as_opened, loaded_sound}
use Rattle.trnadulek.specs.Block.{block_loaded, load_block_of, open_block_of, saved_if, save_block_of, save_block_image_of}

-- a load leaves the block of the state that it answers
pub block_left : (l w : Loaded) {b : List ℕ} → l ≡ w → b ≡ block_of l.cpu → Gives (block_loaded w) l.code b
unfolding block_loaded
block_left l w loaded left = record { answers = rw loaded; leaves = rw (left, loaded) }

-- a load of what a save wrote gives the block back

module _ (b : List ℕ) (size : length b ≡ block_size) (bytes : ByteList b) where
  -- of a head and of an image alike: what is loaded from the bytes that a save of the block's state wrote
  from : (w : With ℕ) (old : List ℕ) (load : List ℕ → Loaded)
      → (Accepted w.out → load w.mem ≡ record { code = 0; cpu = held_in b }) → (t : Bool) → has_codes b ≡ t
      → Accepted (saved_if t w old).out → block_loaded (load (saved_if t w old).mem) ≡ keeping 0 b
  unfolding saved_if block_loaded
  from w old load loaded true codes accepted = rw (loaded accepted, block_back b size bytes codes)
  from w old load loaded false codes accepted = absurd (eqb-false 9 0 refl accepted)

  pub head_loaded_as_saved : (h : List ℕ) → Accepted (save_block_of b h).out → load_block_of (save_block_of b h).mem ≡ keeping 0 b
  unfolding save_block_of load_block_of
  head_loaded_as_saved h = from _ h load_head_of (loaded_as_saved (held_in b) h (held_sound b bytes)) (has_codes b) refl

  pub image_opened_as_saved : (m image : List ℕ) → Accepted (save_block_image_of b m image).out
      → open_block_of (save_block_image_of b m image).mem ≡ keeping 0 b
  unfolding save_block_image_of open_block_of
  image_opened_as_saved m image =
      from _ image (λ i. (open_of i).out)
      (λ accepted. ap (λ (w : With Loaded). w.out) (opened_as_saved (held_in b) m image (held_sound b bytes) accepted))
      (has_codes b) refl

-- a save of what a load gave writes the same bytes

loads_sound : (size : ℕ) (h : List ℕ) → head_size ≤ size → ByteList h → Accepted (load_of size h).code → Sound (load_of size h).cpu
unfolding load_of loaded_by state_if unless_refused
loads_sound size h p bytes accepted =
    rw accepted (loaded_sound h (omega (arith, (accepted_right size h accepted).size_is)) bytes)

pub head_saved_as_loaded : (h old : List ℕ) → ByteList h → length old ≡ head_size → Accepted (load_block_of h).out
    → save_block_of (load_block_of h).mem old ≡ keeping 0 h
unfolding load_block_of block_loaded save_block_of saved_if load_head_of
head_saved_as_loaded h old bytes size accepted =
    let sound = loads_sound head_size h (omega arith) bytes accepted in
    rw (has_codes_lem (load_head_of h).cpu, held_back (load_head_of h).cpu sound) (saved_as_loaded h old bytes accepted size)

pub image_saved_as_opened : (image old : List ℕ) → ByteList image → length old ≡ image_size → Accepted (open_block_of image).out
    → save_block_image_of (open_block_of image).mem (open_of image).mem old ≡ keeping 0 image
unfolding open_block_of block_loaded save_block_image_of saved_if open_of
image_saved_as_opened image old bytes size accepted =
    let sound = loads_sound image_size image (omega arith) bytes accepted in
    rw (has_codes_lem (open_of image).out.cpu, held_back (open_of image).out.cpu sound)
    (saved_as_opened image old bytes accepted size)
