-- What is not refused: the number of a load or a save is 0 exactly where each property holds that a refusal names.
-- Assumes nothing.
use Prim.Native.Nat.{ℕ, ◌%◌}
use mathlib.Core.Bool.{true, false, not, and-eq-true_iff}
use mathlib.Core.List.{List}
use mathlib.Core.Path.{◌≡◌, refl}
use borrow.Author.Tests.{eqb-true, eq-eqb, not-false}
use lib.Dec.{eqb}
use lib.ListN.{length}
use Rattle.arith.specs.Refusals.{order}
use Rattle.arith.proofs.Refusals.{refused_none}
use Rattle.machine.specs.Memory.{memory_size}
use Rattle.machine.specs.declared.Cpu.{Cpu}
use Rattle.saved.specs.Block.{block_size, flags_in, has_codes}
use Rattle.saved.specs.Head.{version, head_size, image_size, version_in, block_size_in, block_in, memory_size_in}
use Rattle.saved.specs.Refusals.{Accepted, flags_refusals, content_refusals, load_refusals, load_code}
use Rattle.saved.specs.Refusals.{save_head_refusals, save_head_code, save_image_refusals, save_image_code}

-- the bytes of a head or an image that is not refused
pub record Right (size : ℕ) (h : List ℕ) : Type 0 where
  pub size_is : length h ≡ size
  pub version_is : version_in h ≡ version
  pub block_is : block_size_in h ≡ block_size
  pub memory_is : memory_size_in h ≡ memory_size
  pub has_codes : has_codes (block_in h) ≡ true
  pub flags_low : flags_in (block_in h) % 16 ≡ 0

-- a test of a refusal that does not hold
is : {a b : ℕ} → not (eqb a b) ≡ false → a ≡ b
is {a} {b} h = eqb-true a b (not-false (eqb a b) h)

-- nothing is refused only where the bytes are right
pub accepted_right : (size : ℕ) (h : List ℕ) → Accepted (load_code size h) → Right size h
unfolding load_code load_refusals content_refusals flags_refusals
accepted_right size h p =
    let none = (refused_none (load_refusals size h) refl).0 p in
    let lengths = (and-eq-true_iff _ _).0 (not-false _ none.1.1.0) in
    record {
      size_is = is none.0;
      version_is = is none.1.0;
      block_is = eqb-true _ _ lengths.0;
      memory_is = eqb-true _ _ lengths.1;
      has_codes = not-false _ none.1.1.1.0;
      flags_low = is none.1.1.1.1.0;
    }

-- and wherever they are
pub right_accepted : (size : ℕ) (h : List ℕ) → Right size h → Accepted (load_code size h)
unfolding order load_code load_refusals content_refusals flags_refusals
right_accepted size h r =
    rw (
      eq-eqb _ _ r.size_is,
      eq-eqb _ _ r.version_is,
      eq-eqb _ _ r.block_is,
      eq-eqb _ _ r.memory_is,
      r.has_codes,
      eq-eqb _ _ r.flags_low,
    )

-- saving

pub record HeadFits (s : Cpu) (h : List ℕ) : Type 0 where
  pub size_is : length h ≡ head_size
  pub flags_low : s.f % 16 ≡ 0

pub record ImageFits (s : Cpu) (m image : List ℕ) : Type 0 where
  pub size_is : length image ≡ image_size
  pub memory_is : length m ≡ memory_size
  pub flags_low : s.f % 16 ≡ 0

pub accepted_head_fits : (s : Cpu) (h : List ℕ) → Accepted (save_head_code s h) → HeadFits s h
unfolding save_head_code save_head_refusals flags_refusals
accepted_head_fits s h p =
    let none = (refused_none (save_head_refusals s h) refl).0 p in
    record { size_is = is none.0; flags_low = is none.1.0 }

pub head_fits_accepted : (s : Cpu) (h : List ℕ) → HeadFits s h → Accepted (save_head_code s h)
unfolding order save_head_code save_head_refusals flags_refusals
head_fits_accepted s h r = rw (eq-eqb _ _ r.size_is, eq-eqb _ _ r.flags_low)

pub accepted_image_fits : (s : Cpu) (m image : List ℕ) → Accepted (save_image_code s m image) → ImageFits s m image
unfolding save_image_code save_image_refusals flags_refusals
accepted_image_fits s m image p =
    let none = (refused_none (save_image_refusals s m image) refl).0 p in
    record { size_is = is none.0; memory_is = is none.1.0; flags_low = is none.1.1.0 }

pub image_fits_accepted : (s : Cpu) (m image : List ℕ) → ImageFits s m image → Accepted (save_image_code s m image)
unfolding order save_image_code save_image_refusals flags_refusals
image_fits_accepted s m image r = rw (eq-eqb _ _ r.size_is, eq-eqb _ _ r.memory_is, eq-eqb _ _ r.flags_low)
