-- The numbers inside a decoded instruction are in range: bytes below 256, words below 65536, bit numbers below 8.
-- Assumes nothing.
use Prim.Native.Nat.{ℕ, zero, suc, ◌/◌, ◌%◌, ◌<◌}
use mathlib.Core.Bool.{Bool, true, false}
use mathlib.Core.List.{List, [], ◌∷◌}
use native.Mathlib.Omega.{arith}
use lib.Dec.{eqb}
use lib.ListN.{get_or}
use Rattle.insn.specs.Grid.{r_at, operand_of, nth, prefixed_at, prefixed_of, x0_of, halt_or, x1_of, x2_of, x3_of, grid_of, decode_of}
use Rattle.insn.specs.declared.Place.{Place}
use Rattle.insn.specs.declared.Place.TheVariants as place
use Rattle.insn.specs.declared.Operand.{Operand}
use Rattle.insn.specs.declared.Operand.TheVariants.{Reg, AtHl, Const}
use Rattle.insn.specs.declared.Insn.{Insn}
use Rattle.insn.specs.declared.Insn.TheVariants.{Nop, StoreSp, Stop, Jr, JrIf, LoadPair, AddHl, StoreAt, LoadAt, IncPair, DecPair, Inc, Dec, Load, RotateA, Daa, Cpl, Scf, Ccf, Halt, Math, RetIf, StoreHigh, AddSp, LoadHigh, LoadHlSp, Pop, Ret, Reti, JumpHl, LoadSpHl, JumpIf, StoreHighC, StoreTo, LoadHighC, LoadFrom, Jump, Rotate, Bit, Res, Set, Di, Ei, CallIf, Push, Call, Rst, Undefined}

abbrev pub SoundOperand : Operand → Type 0
SoundOperand (Reg r) = Unit {0}
SoundOperand AtHl = Unit {0}
SoundOperand (Const v) = v < 256

abbrev pub SoundInsn : Insn → Type 0
SoundInsn Nop = Unit {0}
SoundInsn (StoreSp w) = w < 65536
SoundInsn Stop = Unit {0}
SoundInsn (Jr n) = n < 256
SoundInsn (JrIf cc n) = n < 256
SoundInsn (LoadPair w rp) = w < 65536
SoundInsn (AddHl rp) = Unit {0}
SoundInsn (StoreAt p) = Unit {0}
SoundInsn (LoadAt p) = Unit {0}
SoundInsn (IncPair rp) = Unit {0}
SoundInsn (DecPair rp) = Unit {0}
SoundInsn (Inc p) = Unit {0}
SoundInsn (Dec p) = Unit {0}
SoundInsn (Load p s) = SoundOperand s
SoundInsn (RotateA r) = Unit {0}
SoundInsn Daa = Unit {0}
SoundInsn Cpl = Unit {0}
SoundInsn Scf = Unit {0}
SoundInsn Ccf = Unit {0}
SoundInsn Halt = Unit {0}
SoundInsn (Math a o) = SoundOperand o
SoundInsn (RetIf cc) = Unit {0}
SoundInsn (StoreHigh n) = n < 256
SoundInsn (AddSp n) = n < 256
SoundInsn (LoadHigh n) = n < 256
SoundInsn (LoadHlSp n) = n < 256
SoundInsn (Pop rp) = Unit {0}
SoundInsn Ret = Unit {0}
SoundInsn Reti = Unit {0}
SoundInsn JumpHl = Unit {0}
SoundInsn LoadSpHl = Unit {0}
SoundInsn (JumpIf cc w) = w < 65536
SoundInsn StoreHighC = Unit {0}
SoundInsn (StoreTo w) = w < 65536
SoundInsn LoadHighC = Unit {0}
SoundInsn (LoadFrom w) = w < 65536
SoundInsn (Jump w) = w < 65536
SoundInsn (Rotate r p) = Unit {0}
SoundInsn (Bit k p) = k < 8
SoundInsn (Res k p) = k < 8
SoundInsn (Set k p) = k < 8
SoundInsn Di = Unit {0}
SoundInsn Ei = Unit {0}
SoundInsn (CallIf cc w) = w < 65536
SoundInsn (Push rp) = Unit {0}
SoundInsn (Call w) = w < 65536
SoundInsn (Rst n) = n < 256
SoundInsn Undefined = Unit {0}

-- what holds of each of a list, and of what stands past its end, holds of the k-th
abbrev pub Each : {A : Type 0} → (A → Type 0) → List A → Type 0
Each P [] = Unit {0}
Each P (x ∷ xs) = P x × Each P xs

-- what holds of the first, and of each of the rest
infixr 5 ◌▸◌
abbrev pub ◌▸◌ : {A B : Type 0} → A → B → A × B
a ▸ b = (a, b)

pub each : {A : Type 0} (P : A → Type 0) (xs : List A) (d : A) → P d → Each P xs → (k : ℕ) → P (get_or xs k d)
each P [] d h e k = h
each P (x ∷ xs) d h e zero = e.0
each P (x ∷ xs) d h e (suc k) = each P xs d h e.1 k

nth_sound : (line : List Insn) → Each SoundInsn line → (k : ℕ) → SoundInsn (nth k line)
unfolding nth
nth_sound line e k = each SoundInsn line Undefined tt e k

-- a place carries no constant
pub place_sound : (p : Place) → SoundOperand (operand_of p)
unfolding operand_of
place_sound place.B = tt
place_sound place.C = tt
place_sound place.D = tt
place_sound place.E = tt
place_sound place.H = tt
place_sound place.L = tt
place_sound place.AtHl = tt
place_sound place.A = tt

prefixed_at_lem : (x y z : ℕ) → y < 8 → SoundInsn (prefixed_at x y z)
unfolding prefixed_at
prefixed_at_lem x y z h = nth_sound _ (tt ▸ h ▸ h ▸ h ▸ tt) x

pub prefixed_sound : (n : ℕ) → SoundInsn (prefixed_of n)
unfolding prefixed_of
prefixed_sound n = prefixed_at_lem (n / 64) (n / 8 % 8) (n % 8) (omega arith)

module _ (y z p q n w : ℕ) (small : y < 8) (byte : n < 256) (word : w < 65536) where
  x0_sound : SoundInsn (x0_of y z p q n w)
  unfolding x0_of
  x0_sound =
      nth_sound _
      (nth_sound _ (omega arith) y
      ▸ nth_sound _ (omega arith) q
      ▸ nth_sound _ (omega arith) q
      ▸ nth_sound _ (omega arith) q
      ▸ tt
      ▸ tt
      ▸ byte
      ▸ nth_sound _ (omega arith) y
      ▸ tt)
      z

  x3_sound : SoundInsn (x3_of y z p q n w)
  unfolding x3_of
  x3_sound =
      nth_sound _
      (nth_sound _ (omega arith) y
      ▸ nth_sound _ (tt ▸ nth_sound _ (omega arith) p ▸ tt) q
      ▸ nth_sound _ (omega arith) y
      ▸ nth_sound _ (word ▸ prefixed_sound n ▸ omega arith) y
      ▸ nth_sound _ (omega arith) y
      ▸ nth_sound _ (tt ▸ nth_sound _ (omega arith) p ▸ tt) q
      ▸ byte
      ▸ omega arith
      ▸ tt)
      z

x1_sound : (op y z : ℕ) → SoundInsn (x1_of op y z)
unfolding x1_of halt_or
x1_sound op y z = go (eqb op 0x76)
  where
    go : (b : Bool) → SoundInsn (halt_or b (Load (r_at y) (operand_of (r_at z))))
    go true = tt
    go false = place_sound (r_at z)

x2_sound : (y z : ℕ) → SoundInsn (x2_of y z)
unfolding x2_of
x2_sound y z = place_sound (r_at z)

pub decode_sound : (op n w : ℕ) → n < 256 → w < 65536 → SoundInsn (decode_of op n w)
unfolding decode_of grid_of
decode_sound op n w byte word =
    nth_sound _
    (x0_sound _ _ _ _ n w (omega arith) byte word
    ▸ x1_sound op _ _
    ▸ x2_sound _ _
    ▸ x3_sound _ _ _ _ n w (omega arith) byte word
    ▸ tt)
    (op / 64)
