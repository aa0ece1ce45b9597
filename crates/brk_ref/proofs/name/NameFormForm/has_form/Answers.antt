use Rattle.std.proofs.Common.{arith, length, sym, ◌∙◌}
use Rattle.std.proofs.lemmas.Bool.{eqb-false}
use Rattle.brk_ref.proofs.Texts.{name_is}
use Rattle.brk_ref.proofs.name.NameFormForm.has_form.Goals as goal

pub returns : goal.returns
returns c =
    let some = eqb-false (length c.args.text.now) 0 (sym c.is_empty.ensures ∙ c.if-is_empty.false) in
    name_is c.args.text.now c.has_no_controls.result c.utf8.text (omega (arith, some)) (omega arith) c.has_no_controls.ensures
