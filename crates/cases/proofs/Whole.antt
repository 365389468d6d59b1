-- Opens the whole definition, so that a step on numbers is computed.
-- Assumes nothing.
use Rattle.arith.specs.Width.{sum_of, difference_of, carry_of, borrow_of}
use Rattle.arith.specs.Flags.{weight_if, flags_of, z_of, n_of, h_of, c_of}
use Rattle.arith.specs.Bytes.{added_of, subtracted_of, logic_of, compared_of, alu_of, increased_of, decreased_of, bit_of, reset_of, set_of, tested_of}
use Rattle.arith.specs.Rotates.{rotated_of, left_over_of, rotation_of, rotation_a_of}
use Rattle.arith.specs.Decimal.{adjustment_of, adjusted_of, after_subtraction_of, low_wrong_of, high_wrong_of, after_addition_of, by_last, decimal_of}
use Rattle.arith.specs.Words.{word_of, high_of, low_of, further, back, offset_by, offset_of, added_hl_of, added_sp_of}
use Rattle.arith.specs.Refusals.{order}
use Rattle.insn.specs.Grid.{grid}
use Rattle.insn.specs.Shapes.{shapes}
use Rattle.machine.specs.Memory.{byte_at, stored}
use Rattle.machine.specs.Modes.{is_on}
use Rattle.machine.specs.Interrupts.{pending_of, lowest_set, lowest_of, dispatch_due_of, chosen_if, chosen_of, vectored_of, dispatch_of}
use Rattle.machine.specs.Execute.{acts}
use Rattle.machine.specs.Step.{flow}

unfoldable pub numbers : Unit {0}
unfolding sum_of difference_of carry_of borrow_of weight_if flags_of z_of n_of h_of c_of added_of subtracted_of logic_of compared_of alu_of increased_of decreased_of bit_of reset_of set_of tested_of rotated_of left_over_of rotation_of rotation_a_of adjustment_of adjusted_of after_subtraction_of low_wrong_of high_wrong_of after_addition_of by_last decimal_of word_of high_of low_of further back offset_by offset_of added_hl_of added_sp_of
numbers = tt

unfoldable pub whole : Unit {0}
unfolding numbers order grid shapes byte_at stored is_on pending_of lowest_set lowest_of dispatch_due_of chosen_if chosen_of vectored_of dispatch_of acts flow
whole = tt
