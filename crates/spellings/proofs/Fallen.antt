-- A text falls apart at the place that a search finds, and the outline of a line is what the code puts together.
-- Assumes nothing.
use Prim.Native.Nat.{ℕ, suc, ◌+◌, ◌-◌, ◌≤◌, ◌<◌}
use mathlib.Core.Bool.{Bool, true}
use mathlib.Core.List.{List, [], ◌∷◌, ◌++◌, append-nil, append_assoc}
use mathlib.Core.Logic.{◌≢◌}
use mathlib.Core.Path.{◌≡◌, refl, sym, ◌∙◌, ap}
use native.Mathlib.Nat.{zero-add}
use native.Mathlib.Omega.{arith}
use lib.ListN.{length, take, drop, length-append, length-drop, replicate, get_or-replicate}
use lib.Seq.{take-append_seam, drop-append_seam, drop-length, drop-drop, drop-cons, take_all, take-length, length-take-le, take-append-add, paste, length-paste, take-paste}
use Rattle.spellings.specs.Outline.{begins, ends, up_to, on_from, before_in, constant_in, behind_in, mark, marked, outline_in}
use Rattle.spellings.specs.Rows.{row_by, slot_at, Form, form_of}
use Rattle.spellings.specs.Lookup.{is_space, is_comma, bare_in, name_in, operand_in, alone_row, single_row, double_row, operands_row, named_row, lookup, Stands}
use Rattle.spellings.specs.Exact.{is_constant}
use Rattle.spellings.specs.declared.Slot.{Slot}
use Rattle.spellings.proofs.Outline.{rejoin, free_apart, Parts, Without, With, parts, mark_of, constant_length}
use Rattle.spellings.proofs.Looked.{lookup_is}

-- the place where a search stops cuts the text in two
module _ (passes : ℕ → Bool) (text : List ℕ) where
  pub before_cut : take (length (up_to passes text)) text ≡ up_to passes text
  before_cut =
      ap (take (length (up_to passes text))) (sym (rejoin passes text)) ∙ take-append_seam (up_to passes text) (on_from passes text)

  pub behind_cut : drop (length (up_to passes text)) text ≡ on_from passes text
  behind_cut =
      ap (drop (length (up_to passes text))) (sym (rejoin passes text)) ∙ drop-append_seam (up_to passes text) (on_from passes text)

  pub cut_most : length (up_to passes text) ≤ length text
  cut_most = omega (arith, length-append (up_to passes text) (on_from passes text), ap length (rejoin passes text))

  -- where it is the end there is nothing behind, and where it is not there is something
  pub nothing_behind : length (up_to passes text) ≡ length text → on_from passes text ≡ []
  nothing_behind e = sym behind_cut ∙ ap (λ n. drop n text) e ∙ drop-length text

  pub all_before : length (up_to passes text) ≡ length text → up_to passes text ≡ text
  all_before e = sym (append-nil (up_to passes text)) ∙ ap (λ (l : List ℕ). up_to passes text ++ l) (sym (nothing_behind e)) ∙ rejoin passes text

  pub some_behind : length (up_to passes text) ≢ length text → (c : ℕ) × (rest : List ℕ) × (on_from passes text ≡ c ∷ rest)
  some_behind other = go (on_from passes text) refl
    where
      go : (rest : List ℕ) → on_from passes text ≡ rest → (c : ℕ) × (rest : List ℕ) × (on_from passes text ≡ c ∷ rest)
      go [] e = absurd (other (ap length (sym (append-nil (up_to passes text)) ∙ ap (λ (l : List ℕ). up_to passes text ++ l) (sym e) ∙ rejoin passes text)))
      go (c ∷ rest) e = (c, rest, e)

-- the constant of a line is a part of it
pub constant_part : (line : List ℕ) → take (length (constant_in line)) (drop (length (before_in line)) line) ≡ constant_in line
unfolding before_in constant_in
constant_part line = rw (behind_cut begins line) (before_cut ends (on_from begins line))

pub constant_within : (line : List ℕ) → length (before_in line) + length (constant_in line) ≤ length line
unfolding before_in constant_in
constant_within line =
    omega (
      arith,
      length-append (up_to begins line) (on_from begins line),
      ap length (rejoin begins line),
      cut_most ends (on_from begins line),
    )

-- a name alone: there is no space
module _ (text : List ℕ) (n : ℕ) (is : n ≡ 0 + length (up_to is_space text)) where
  space_at : n ≡ length (up_to is_space text)
  space_at = is ∙ zero-add _

  pub alone_row_lem : n ≡ length text → row_by text ≡ alone_row (bare_in text)
  unfolding lookup named_row
  alone_row_lem end =
      let whole = sym space_at ∙ end in
      sym (lookup_is text) ∙ rw (nothing_behind is_space text whole, all_before is_space text whole)

  -- a name, and what stands behind the space
  behind_space : n ≢ length text → lookup text ≡ operands_row (name_in (take n text)) (up_to is_comma (drop (n + 1) text)) (on_from is_comma (drop (n + 1) text))
  unfolding lookup named_row
  behind_space more =
      let some = some_behind is_space text (λ e. more (space_at ∙ e)) in
      let rest : drop (n + 1) text ≡ some.1 =
      sym (drop-drop 1 n text) ∙ ap (λ k. drop 1 (drop k text)) space_at ∙ ap (drop 1) (behind_cut is_space text ∙ some.2) in
      rw (some.2, rest, ap (λ k. take k text) space_at, before_cut is_space text)

  module _ (more : n ≢ length text) (m : ℕ) (at : m ≡ n + 1 + length (up_to is_comma (drop (n + 1) text))) where
    comma_at : m - (n + 1) ≡ length (up_to is_comma (drop (n + 1) text))
    comma_at = omega arith

    first_operand : take (m - (n + 1)) (drop (n + 1) text) ≡ up_to is_comma (drop (n + 1) text)
    first_operand = rw comma_at (before_cut is_comma (drop (n + 1) text))

    left : n + 1 ≤ length text → length (drop (n + 1) text) + (n + 1) ≡ length text
    left h = omega (arith, length-drop (n + 1) text)

    pub single_row_lem : n + 1 ≤ length text → m ≡ length text → row_by text ≡ single_row (name_in (take n text)) (operand_in (take (m - (n + 1)) (drop (n + 1) text)))
    unfolding operands_row
    single_row_lem h end =
        let whole : length (up_to is_comma (drop (n + 1) text)) ≡ length (drop (n + 1) text) = omega (arith, left h) in
        sym (lookup_is text) ∙ behind_space more ∙ rw (nothing_behind is_comma (drop (n + 1) text) whole, first_operand)

    pub double_row_lem : m ≤ length text → m ≢ length text
        → row_by text ≡ double_row (name_in (take n text)) (operand_in (take (m - (n + 1)) (drop (n + 1) text))) (operand_in (take (length text - (m + 1)) (drop (m + 1) text)))
    unfolding operands_row
    double_row_lem h more' =
        let some = some_behind is_comma (drop (n + 1) text) (λ e. more' (omega (arith, left (omega arith)))) in
        let within : m + 1 ≤ length text = omega arith in
        let two : n + 1 + length (up_to is_comma (drop (n + 1) text)) ≡ m = omega arith in
        let rest : drop (m + 1) text ≡ some.1 =
        sym (drop-drop 1 m text) ∙ ap (λ k. drop 1 (drop k text)) (sym two)
        ∙ ap (drop 1) (sym (drop-drop (length (up_to is_comma (drop (n + 1) text))) (n + 1) text) ∙ behind_cut is_comma (drop (n + 1) text) ∙ some.2) in
        let all : take (length text - (m + 1)) (drop (m + 1) text) ≡ drop (m + 1) text =
        take_all (length text - (m + 1)) (drop (m + 1) text) (omega (arith, length-drop (m + 1) text)) in
        sym (lookup_is text) ∙ behind_space more ∙ rw (some.2, all, rest, first_operand)

-- a line and its outline
module _ (line : List ℕ) (from to : ℕ) (is_from : from ≡ length (before_in line)) (is_to : to ≡ from + length (constant_in line)) where
  before_from : take from line ≡ before_in line
  unfolding before_in
  before_from = rw is_from (before_cut begins line)

  behind_to : drop to line ≡ behind_in line
  unfolding before_in constant_in behind_in
  behind_to =
      ap (λ n. drop n line) is_to
      ∙ sym (drop-drop (length (constant_in line)) from line)
      ∙ ap (drop (length (constant_in line))) (ap (λ n. drop n line) is_from ∙ behind_cut begins line)
      ∙ behind_cut ends (on_from begins line)

  -- where no character begins a constant, the outline is the line
  pub outline_whole : from ≡ length line → outline_in line ≡ line
  unfolding before_in constant_in behind_in outline_in marked up_to on_from
  outline_whole end =
      let whole = sym is_from ∙ end in
      rw (nothing_behind begins line whole, all_before begins line whole, append-nil line)

  -- where one does, there is a constant
  like_constant : from ≢ length line → is_constant (constant_in line) ≡ true
  unfolding before_in
  like_constant more = go (parts line)
    where
      go : Parts line → is_constant (constant_in line) ≡ true
      go (Without f) = absurd (more (is_from ∙ ap length (free_apart line f).before_is))
      go (With f is e) = is

  pub constant_some : from ≢ length line → from < to
  constant_some more = let some = constant_length (constant_in line) (like_constant more) in omega arith

  pub outline_parts : from ≢ length line → outline_in line ≡ take from line ++ (mark ∷ drop to line)
  unfolding outline_in
  outline_parts more = rw (before_from, behind_to, mark_of (constant_in line) (like_constant more))

  pub outline_size : from ≤ length line → from ≢ length line → length (outline_in line) ≡ from + 1 + (length line - to)
  outline_size h more =
      rw (outline_parts more)
      (omega (arith, length-append (take from line) (mark ∷ drop to line), length-take-le from line h, length-drop to line))

-- what the code puts together: marks, and the two parts pasted over them
module _ (pre post : List ℕ) (fits : length pre + 1 + length post ≤ 10) where
  abbrev marks : List ℕ
  marks = replicate 10 mark

  abbrev once : List ℕ
  once = paste marks 0 pre (length pre)

  once_is : once ≡ pre ++ (mark ∷ drop (suc (length pre)) marks)
  once_is =
      let behind : drop (length pre) marks ≡ mark ∷ drop (suc (length pre)) marks =
      drop-cons marks (length pre) mark (omega arith)
      ∙ ap (λ c. c ∷ drop (suc (length pre)) marks) (get_or-replicate 10 (length pre) mark mark (omega arith)) in
      rw (take-length pre, zero-add (length pre), behind)

  pub pasted : take (length pre + 1 + length post) (paste once (length pre + 1) post (length post)) ≡ pre ++ (mark ∷ post)
  pasted =
      let size : length once ≡ 10 = length-paste marks 0 pre (length pre) (omega arith) (omega arith) in
      take-paste once (length pre + 1) post (length post) (omega arith) (omega arith)
      ∙ ap (λ (l : List ℕ). take (length pre + 1) l ++ take (length post) post) once_is
      ∙ ap (λ (l : List ℕ). l ++ take (length post) post) (take-append-add pre (mark ∷ drop (suc (length pre)) marks) 1)
      ∙ ap (λ (l : List ℕ). (pre ++ (mark ∷ [])) ++ l) (take-length post)
      ∙ append_assoc pre (mark ∷ []) post

-- where two searches stop a line's constant begins and ends, and so the line's form is known
module _ (line : List ℕ) (from to : ℕ) where
  pub stands : from ≡ 0 + length (up_to begins line) → to ≡ from + length (up_to ends (drop from line)) → to ≤ length line → Stands line from to
  unfolding before_in constant_in
  stands p q h =
      let at = p ∙ zero-add (length (up_to begins line)) in
      record {
        begin = at;
        end = q ∙ ap (λ (l : List ℕ). from + length (up_to ends l)) (ap (λ n. drop n line) at ∙ behind_cut begins line);
        within = h;
      }

  pub form_is : (row : ℕ) (slot : Slot) → Stands line from to → row ≡ row_by (outline_in line) → slot ≡ slot_at row
      → ◌≡◌ {A = Form} (record { row = row; slot = slot; from = from; to = to }) (form_of line)
  unfolding form_of
  form_is row slot s p q = rw (q, p, s.end, s.begin)
