use Rattle.std.proofs.Common.{◌≡◌, ◌∙◌, ◌+◌, List, [], refl, sym, ap, subst, drop, get_or}
use Rattle.std.specs.Borrow.{Bor}
use Rattle.std.specs.Option.{ok_or}
use Rattle.std.proofs.lemmas.List.{at_drop_more}
use Rattle.brk_model.specs.Forms.{read_each_text, read_name}
use Rattle.brk_model.specs.Lists.{distinct_texts}
use Rattle.brk_money.specs.Spelling.{Text}
use Rattle.brk_money.specs.declared.refusal.Refusal.TheVariants.{BadText}
use Rattle.brk_ref.specs.Fields.{texts_of_fields}
use Rattle.brk_view_rows.proofs.Distinct.{names_then_new_names, next_refused, next_taken, none_yet, still_distinct}
use Rattle.brk_view_rows.proofs.broker_names.parse_distinct_names.Goals as goal

pub loop-field-init : goal.loop-field-init
loop-field-init c =
    let e = c.new-names.ensures.items in
    record {
      read = none_yet (read_each_text read_name (texts_of_fields c.args.fields.now)) ∙ ap (λ names. names_then_new_names names (read_each_text read_name (texts_of_fields c.args.fields.now))) (sym e);
      distinct = subst (λ (names : List Text). distinct_texts names ≡ names) (sym e) refl;
    }

pub returns-in_default-clause-read : goal.returns-in_default-clause-read
returns-in_default-clause-read c =
    let names : List Text = c.loop-field.names.items in
    let fields : List (Bor Text) = c.args.fields.now in
    let i = c.loop-field.field-index in
    let none : Bor Text = record { ref_ptr = (0, 0); now = [] } in
    c.loop-field.invariant.read
    ∙ at_drop_more (λ (fs : List (Bor Text)). names_then_new_names names (read_each_text read_name (texts_of_fields fs))) fields i none c.loop-field-test.true
    ∙ next_refused names (get_or fields i none).now (texts_of_fields (drop (i + 1) fields)) (sym (ap (λ o. ok_or o BadText) c.in_default.is) ∙ c.in_ok-name.ensures.read)

pub loop-field-preserved : goal.loop-field-preserved
loop-field-preserved c =
    let names : List Text = c.loop-field.names.items in
    let fields : List (Bor Text) = c.args.fields.now in
    let i = c.loop-field.field-index in
    let none : Bor Text = record { ref_ptr = (0, 0); now = [] } in
    let e = c.in_ok-push_new_name.ensures.names in
    record {
      read = c.loop-field.invariant.read
          ∙ at_drop_more (λ (fs : List (Bor Text)). names_then_new_names names (read_each_text read_name (texts_of_fields fs))) fields i none c.loop-field-test.true
          ∙ next_taken names (get_or fields i none).now c.in-Some.name (texts_of_fields (drop (i + 1) fields)) (sym (ap (λ o. ok_or o BadText) c.in-Some.is) ∙ c.in_ok-name.ensures.read)
          ∙ ap (λ ns. names_then_new_names ns (read_each_text read_name (texts_of_fields (drop (i + 1) fields)))) (sym e);
      distinct = subst (λ (ns : List Text). distinct_texts ns ≡ ns) (sym e) (still_distinct names c.in-Some.name c.loop-field.invariant.distinct);
    }
