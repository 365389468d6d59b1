-- `content` tests the version, both lengths, the codes and F, in their order. Each test says the same as the definition's own.
use Prim.Native.Nat.{ℕ}
use borrow.Author.Tests.{eq-eqb, ne_eqb}
use mathlib.Core.Bool.{not}
use mathlib.Core.List.{List}
use mathlib.Core.Path.{◌≡◌, sym, ◌∙◌}
use Rattle.std.proofs.lemmas.Result.{err_from_is_err_and}
use Rattle.arith.specs.Numbers.{number_of}
use Rattle.arith.specs.Refusals.{number_or, code_of}
use Rattle.arith.specs.declared.Refusal.TheVariants.{Version, BlockLength}
use Rattle.digits.specs.Digits.{byte_in}
use Rattle.machine.specs.Memory.{memory_size}
use Rattle.saved.specs.Block.{block_size, has_codes, held_in, flags_in}
use Rattle.saved.specs.Head.{version, version_in, block_size_in, block_in, memory_size_in, state_in}
use Rattle.saved.specs.Refusals.{flags_refusals, content_refusals}
use Rattle.saved.proofs.Told.{told_refused, told_done, unread, was_read}
use Rattle.saved.proofs.head.content.Goals as goal
use Rattle.saved.proofs.head.content.Goals.{then-number_at-ne-BLOCK_LENGTH-via-then-number_at-ne-BLOCK_LENGTH, then-number_at-ne-BLOCK_LENGTH-via-else-number_at-ne-BLOCK_LENGTH+then-number_at-ne-MEMORY_LENGTH}

-- the refusals, and what they look at
unfoldable layout : Unit {0}
unfolding content_refusals code_of number_or version_in block_size_in memory_size_in byte_in
layout = tt

pub returns-then-head-ne-VERSION : goal.returns-then-head-ne-VERSION
unfolding layout
returns-then-head-ne-VERSION c =
    let h = c.args.head.now in
    told_refused Version (code_of (content_refusals h)) h (rw (ne_eqb _ _ c.if-head-ne-VERSION.true))

pub returns-then-number_at-ne-BLOCK_LENGTH : goal.returns-then-number_at-ne-BLOCK_LENGTH
unfolding layout
returns-then-number_at-ne-BLOCK_LENGTH c =
    let h = c.args.head.now in
    let refused : 8 ≡ code_of (content_refusals h) =
    elim c.then-number_at-ne-BLOCK_LENGTH.branch [
      | then-number_at-ne-BLOCK_LENGTH-via-then-number_at-ne-BLOCK_LENGTH w ↦
          rw (eq-eqb _ _ c.if-head-ne-VERSION.false, ← c.number_at.ensures, ne_eqb _ _ w.if-number_at-ne-BLOCK_LENGTH.true)
      | then-number_at-ne-BLOCK_LENGTH-via-else-number_at-ne-BLOCK_LENGTH+then-number_at-ne-MEMORY_LENGTH w ↦
          rw (
            eq-eqb _ _ c.if-head-ne-VERSION.false,
            ← c.number_at.ensures,
            eq-eqb _ _ w.if-number_at-ne-BLOCK_LENGTH.false,
            ← w.number_at-else-number_at-ne-BLOCK_LENGTH.ensures,
            ne_eqb _ _ w.if-number_at-ne-MEMORY_LENGTH.true,
          )
    ]
    in
    told_refused BlockLength (code_of (content_refusals h)) h refused

-- what is left to test once version and lengths are right
rest : (h : List ℕ) → version_in h ≡ version → block_size_in h ≡ block_size → memory_size_in h ≡ memory_size
    → code_of (content_refusals h) ≡ number_or (not (has_codes (block_in h))) 9 (code_of (flags_refusals (flags_in (block_in h))))
unfolding content_refusals code_of number_or
rest h v b m = rw (eq-eqb _ _ v, eq-eqb _ _ b, eq-eqb _ _ m)

-- and of that state
flags_same : (s : _) (b : List ℕ) → s ≡ held_in b → s.f ≡ flags_in b
unfolding held_in
flags_same s b e = rw e

pub returns-in_err-cpu : goal.returns-in_err-cpu
unfolding version_in block_size_in memory_size_in byte_in number_or
returns-in_err-cpu c =
    let h = c.args.head.now in
    let left = rest h c.if-head-ne-VERSION.false (sym c.number_at.ensures ∙ c.if-number_at-ne-BLOCK_LENGTH.false)
    (sym c.number_at-else-number_at-ne-BLOCK_LENGTH.ensures ∙ c.if-number_at-ne-MEMORY_LENGTH.false) in
    let block = unread c.block_in.result c.in_err-cpu.field-0.0 c.in_err-cpu.ensures in
    let codes = rw c.block_in.ensures at block.codes in
    let refused : number_of c.in_err-cpu.field-0.0 ≡ code_of (content_refusals h) = rw (left, codes) block.number in
    let p = err_from_is_err_and c.from_residual.result c.from_residual.ensures.1 in
    rw (p.1, p.2) (told_refused c.in_err-cpu.field-0.0 (code_of (content_refusals h)) h refused)

pub returns-in_err-flags_fit : goal.returns-in_err-flags_fit
unfolding version_in block_size_in memory_size_in byte_in number_or
returns-in_err-flags_fit c =
    let h = c.args.head.now in
    let left = rest h c.if-head-ne-VERSION.false (sym c.number_at.ensures ∙ c.if-number_at-ne-BLOCK_LENGTH.false)
    (sym c.number_at-else-number_at-ne-BLOCK_LENGTH.ensures ∙ c.if-number_at-ne-MEMORY_LENGTH.false) in
    let block = was_read c.block_in.result c.in_ok-cpu.cpu c.in_ok-cpu.ensures in
    let codes = rw c.block_in.ensures at block.codes in
    let state = rw c.block_in.ensures at block.state in
    let refused : number_of c.in_err-flags_fit.field-0.0 ≡ code_of (content_refusals h) =
    rw (left, codes, ← (flags_same _ _ state)) c.in_err-flags_fit.ensures in
    let p = err_from_is_err_and c.from_residual-in_err-flags_fit.result c.from_residual-in_err-flags_fit.ensures.1 in
    rw (p.1, p.2) (told_refused c.in_err-flags_fit.field-0.0 (code_of (content_refusals h)) h refused)

pub returns : goal.returns
unfolding version_in block_size_in memory_size_in byte_in number_or state_in
returns c =
    let h = c.args.head.now in
    let left = rest h c.if-head-ne-VERSION.false (sym c.number_at.ensures ∙ c.if-number_at-ne-BLOCK_LENGTH.false)
    (sym c.number_at-else-number_at-ne-BLOCK_LENGTH.ensures ∙ c.if-number_at-ne-MEMORY_LENGTH.false) in
    let block = was_read c.block_in.result c.in_ok-cpu.cpu c.in_ok-cpu.ensures in
    let codes = rw c.block_in.ensures at block.codes in
    let state = rw c.block_in.ensures at block.state in
    let done : code_of (content_refusals h) ≡ 0 = rw (left, codes, ← (flags_same _ _ state)) (sym c.in_ok-flags_fit.ensures) in
    told_done c.in_ok-cpu.cpu (code_of (content_refusals h)) h done state
