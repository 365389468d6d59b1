-- `insn::decode::decode` meets its contract: the row of each byte answers for it. Assumes nothing.
use mathlib.Core.Path.{◌∙◌, refl}
use Rattle.arith.specs.declared.Alu.TheVariants as alu
use Rattle.insn.specs.declared.Place.TheVariants as place
use Rattle.insn.proofs.Told.{entries, row, loads_at, sums_at}
use Rattle.insn.proofs.decode.decode.Goals as goal

pub returns-in-4 : goal.returns-in-4
unfolding entries
returns-in-4 c = c.lines.ensures ∙ row (loads_at place.B place.C) 4 _ _ _ c.in-4.is refl

pub returns-in-5 : goal.returns-in-5
unfolding entries
returns-in-5 c = c.lines-in-5.ensures ∙ row (loads_at place.D place.E) 5 _ _ _ c.in-5.is refl

pub returns-in-6 : goal.returns-in-6
unfolding entries
returns-in-6 c = c.lines-in-6.ensures ∙ row (loads_at place.H place.L) 6 _ _ _ c.in-6.is refl

pub returns-in-8 : goal.returns-in-8
unfolding entries
returns-in-8 c = c.lines-in-8.ensures ∙ row (sums_at alu.Add alu.Adc) 8 _ _ _ c.in-8.is refl

pub returns-in-9 : goal.returns-in-9
unfolding entries
returns-in-9 c = c.lines-in-9.ensures ∙ row (sums_at alu.Sub alu.Sbc) 9 _ _ _ c.in-9.is refl

pub returns-in-10 : goal.returns-in-10
unfolding entries
returns-in-10 c = c.lines-in-10.ensures ∙ row (sums_at alu.And alu.Xor) 10 _ _ _ c.in-10.is refl

pub returns-in-11 : goal.returns-in-11
unfolding entries
returns-in-11 c = c.lines-in-11.ensures ∙ row (sums_at alu.Or alu.Cp) 11 _ _ _ c.in-11.is refl
