-- Where the whole text has no fault, what is left of it has none, and its bytes stand behind those that are written.
use Rattle.std.proofs.Common.{ℕ, List, length, ◌+◌, ◌≡◌, ◌<◌, ◌^◌}
use Rattle.listing.specs.Written.{Writes}
use Rattle.listing.specs.declared.writing.Writer.{Writer}
use Rattle.assembler.specs.Text.{Done, prepended, outcome_of}
use Rattle.assembler.specs.declared.texts.Left.{Left}
use Rattle.assembler.proofs.Turns.{outcome_left}
use Rattle.assembler.proofs.texts.write.Given as goal

pub record Parted (bytes : List ℕ) (s : Left) (old new : Writer) : Type 0 where
  pub done : List ℕ
  pub room : ℕ
  pub comes : prepended done (outcome_left s room) ≡ Done bytes
  pub writes : Writes done old new

abbrev pub invariant-loop-left : goal.invariant-loop-left
invariant-loop-left l =
    record {
      lines : l.left.line + length l.left.text.now < 2 ^ 64;
      same : l.writer.out.ghost_name ≡ l.initial.writer.out.ghost_name;
      parted : (room : ℕ) (bytes : List ℕ) → outcome_of l.first l.text room ≡ Done bytes → Parted bytes l.left l.initial.writer l.writer;
    }

abbrev pub decreases-loop-left : goal.decreases-loop-left
decreases-loop-left l = length l.left.text.now
