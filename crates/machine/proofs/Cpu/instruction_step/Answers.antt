-- `instruction_step` meets its contract: what was fetched is the instruction at PC, and it is refused or run.
use mathlib.Core.Path.{◌≡◌, ◌∙◌, ap}
use Rattle.std.specs.Prelude.{ℕ}
use native.Mathlib.Omega.{arith}
use Rattle.arith.specs.Words.{further}
use Rattle.insn.specs.Shapes.{decoded_of}
use Rattle.insn.specs.declared.Decoded.{Decoded}
use Rattle.machine.specs.Memory.{Memory, byte_at, word_at}
use Rattle.machine.specs.Modes.{settled_ime}
use Rattle.machine.specs.Step.{next_rest, end_of}
use Rattle.machine.specs.declared.Cpu.{Cpu}
use Rattle.machine.specs.declared.Done.{Done}
use Rattle.machine.proofs.Costs.{insn_most}
use Rattle.machine.proofs.Fetch.{undefined_here, runs_here, cycles_told}
use Rattle.machine.proofs.Gives.{exactly}
use Rattle.machine.proofs.Cpu.instruction_step.Goals as goal

-- what was decoded is what lies at PC and from rest on
fetched : (s : Cpu) (m : Memory) (rest op n8 n16 : ℕ) (d : Decoded) → rest ≡ next_rest s → op ≡ byte_at m s.pc → n8 ≡ byte_at m rest
    → n16 ≡ word_at m rest → d ≡ decoded_of op n8 n16
    → d ≡ decoded_of (byte_at m s.pc) (byte_at m (next_rest s)) (word_at m (next_rest s))
fetched s m rest op n8 n16 d r o e w h = rw (w, e, o, r) at h

pub returns-then-d-eq0 : goal.returns-then-d-eq0
returns-then-d-eq0 c =
    let a = c.args in
    let d =
    fetched a.self a.mem.now _ _ _ _ _ c.requires.rest_value c.read-op.ensures c.read-n8.ensures c.read_word-n16.ensures
    c.decode-d.ensures
    in
    rw (undefined_here a.self a.mem.now c.decode-d.result d c.if-d-eq0.true, c.refuse.ensures) exactly

pub overflow_add-result : goal.overflow_add-result
overflow_add-result c =
    let a = c.args in
    let d =
    fetched a.self a.mem.now _ _ _ _ _ c.requires.rest_value c.read-op.ensures c.read-n8.ensures c.read_word-n16.ensures
    c.decode-d.ensures
    in
    omega (
      arith,
      ap (λ (r : Done). r.extra) c.execute-done.ensures.answers,
      insn_most a.self.pc c.decode-d.result.insn c.ready.result a.mem.now,
      cycles_told a.self a.mem.now c.decode-d.result d,
    )

pub returns : goal.returns
unfolding settled_ime end_of
returns c =
    let a = c.args in
    let d =
    fetched a.self a.mem.now _ _ _ _ _ c.requires.rest_value c.read-op.ensures c.read-n8.ensures c.read_word-n16.ensures
    c.decode-d.ensures
    in
    let on = c.further.ensures ∙ ap (further c.decode-d.result.more) c.requires.rest_value in
    rw (runs_here a.self a.mem.now c.decode-d.result d a.ime c.requires.settled_by c.if-d-eq0.false)
    (rw (c.execute-done.ensures.answers, c.execute-done.ensures.leaves, c.ready.ensures, on) exactly)
