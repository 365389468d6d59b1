-- Interrupt requests: pending, the lowest request, the dispatch. Document 01, "What the core is" and rule 1 of "One step"; document
-- 02, M-100, for the order in a dispatch.
-- Assumes nothing.
use Rattle.std.specs.Prelude.{ℕ, ◌+◌, ◌*◌, ◌%◌, Bool, true, false, not, ◌&&◌, [], ◌∷◌, ◌++◌, eqb}
use Rattle.std.specs.Int.Bits.{bit_and}
use Rattle.arith.specs.Bytes.{bit_of, reset_of}
use Rattle.arith.specs.Words.{back}
use Rattle.machine.specs.Memory.{Memory, byte_at, store, made}
use Rattle.machine.specs.Answers.{Storing, storing, storeless}
use Rattle.machine.specs.State.{with_sp, with_pc, with_ime, with_mode}
use Rattle.machine.specs.Modes.{is_on}
use Rattle.machine.specs.Stack.{high_below, low_below}
use Rattle.machine.specs.declared.Ime.{Ime}
use Rattle.machine.specs.declared.Ime.TheVariants.{Off}
use Rattle.machine.specs.declared.Mode.TheVariants.{Running}
use Rattle.machine.specs.declared.Cpu.{Cpu}

-- pending: the bitwise AND of IE at $FFFF and IF at $FF0F, low five bits
unfoldable pub pending_of : Memory → ℕ
pending_of m = bit_and (byte_at m 0xFFFF) (byte_at m 0xFF0F) % 32

-- the lowest set bit of a number below 32 that is not 0
unfoldable pub lowest_set : Bool → Bool → Bool → Bool → ℕ
lowest_set true b1 b2 b3 = 0
lowest_set false true b2 b3 = 1
lowest_set false false true b3 = 2
lowest_set false false false true = 3
lowest_set false false false false = 4

unfoldable pub lowest_of : ℕ → ℕ
lowest_of p = lowest_set (bit_of 0 p) (bit_of 1 p) (bit_of 2 p) (bit_of 3 p)

-- a dispatch is due: IME On and pending not 0
unfoldable pub dispatch_due_of : Ime → ℕ → Bool
dispatch_due_of ime p = is_on ime && not (eqb p 0)

-- the choice, from IE and IF as they are: of what is pending the lowest bit k, which is cleared in IF, and the vector $40 + 8k; where
-- nothing is pending no bit is cleared, and PC is to be 0
unfoldable pub chosen_if : Bool → ℕ → Memory → Storing ℕ
chosen_if true k m = storing (0x40 + 8 * k) (store 0xFF0F (reset_of k (byte_at m 0xFF0F)) ∷ [])
chosen_if false k m = storeless 0

unfoldable pub chosen_of : Memory → Storing ℕ
chosen_of m = chosen_if (not (eqb (pending_of m) 0)) (lowest_of (pending_of m)) m

-- the state after a dispatch: SP two back, PC where the choice says, IME Off, mode Running
unfoldable pub vectored_of : ℕ → Cpu → Cpu
vectored_of to s = with_pc to (with_sp (back 2 s.sp) (with_ime Off (with_mode Running s)))

-- the dispatch: the high byte of PC is stored; then IE and IF are read and the choice is made; then the low byte is stored
unfoldable pub dispatch_of : Cpu → Memory → Storing Cpu
dispatch_of s m =
    let high = high_below s.sp s.pc in
    let chosen = chosen_of (made (high ∷ []) m) in
    storing (vectored_of chosen.out s) (high ∷ (chosen.stores ++ (low_below s.sp s.pc ∷ [])))
