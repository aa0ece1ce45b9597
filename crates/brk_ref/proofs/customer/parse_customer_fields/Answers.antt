use Rattle.std.proofs.Common.{sym, ap, ◌∙◌}
use Rattle.std.specs.Option.{ok_or}
use Rattle.brk_money.specs.declared.refusal.Refusal.TheVariants.{BadText}
use Rattle.brk_model.specs.Forms.{read_id, read_name, read_tax_id, read_tier}
use Rattle.brk_ref.proofs.Applied.{first_of_five_refused, second_of_five_refused, third_of_five_refused, fourth_of_five_refused, fifth_of_five_refused}
use Rattle.brk_ref.proofs.customer.parse_customer_fields.Goals as goal

pub returns-in_default : goal.returns-in_default
returns-in_default c =
    first_of_five_refused _ (read_id c.args.id.now) (read_tier c.args.tier.now) (read_tax_id c.args.tax_id.now) (read_name c.args.last_name.now) (read_name c.args.first_name.now)
    (sym c.in_default.ensures)

pub returns-in_default-parse : goal.returns-in_default-parse
returns-in_default-parse c =
    second_of_five_refused _ (read_id c.args.id.now) (read_tier c.args.tier.now) (read_tax_id c.args.tax_id.now) (read_name c.args.last_name.now) (read_name c.args.first_name.now)
    (sym c.in_default-parse.ensures)

pub returns-in_default-2 : goal.returns-in_default-2
returns-in_default-2 c =
    third_of_five_refused _ (read_id c.args.id.now) (read_tier c.args.tier.now) (read_tax_id c.args.tax_id.now) (read_name c.args.last_name.now) (read_name c.args.first_name.now)
    (sym c.in_ok-tax_id.ensures.read ∙ ap (λ o. ok_or o BadText) c.in_default-2.is)

pub returns-in_default-3 : goal.returns-in_default-3
returns-in_default-3 c =
    fourth_of_five_refused _ (read_id c.args.id.now) (read_tier c.args.tier.now) (read_tax_id c.args.tax_id.now) (read_name c.args.last_name.now) (read_name c.args.first_name.now)
    (sym c.in_ok-last_name.ensures.read ∙ ap (λ o. ok_or o BadText) c.in_default-3.is)

pub returns-in_default-4 : goal.returns-in_default-4
returns-in_default-4 c =
    fifth_of_five_refused _ (read_id c.args.id.now) (read_tier c.args.tier.now) (read_tax_id c.args.tax_id.now) (read_name c.args.last_name.now) (read_name c.args.first_name.now)
    (sym c.in_ok-first_name.ensures.read ∙ ap (λ o. ok_or o BadText) c.in_default-4.is)
