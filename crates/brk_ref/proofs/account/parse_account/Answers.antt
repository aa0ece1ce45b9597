use Rattle.std.proofs.Common.{sym, ap, ◌∙◌}
use Rattle.std.specs.Option.{ok_or}
use Rattle.brk_money.specs.declared.refusal.Refusal.TheVariants.{BadText}
use Rattle.brk_model.specs.Forms.{read_id, read_name, read_tax_status, read_opening_balance}
use Rattle.brk_ref.proofs.Applied.{first_of_six_refused, second_of_six_refused, third_of_six_refused, fourth_of_six_refused, fifth_of_six_refused, sixth_of_six_refused}
use Rattle.brk_ref.proofs.account.parse_account.Goals as goal

pub returns-in_default : goal.returns-in_default
returns-in_default c =
    first_of_six_refused _ (read_id c.args.id.now) (read_id c.args.customer.now) (read_id c.args.broker.now) (read_name c.args.name.now)
    (read_tax_status c.args.tax_status.now) (read_opening_balance c.args.opening.now)
    (sym c.in_default.ensures)

pub returns-in_default-parse_id : goal.returns-in_default-parse_id
returns-in_default-parse_id c =
    second_of_six_refused _ (read_id c.args.id.now) (read_id c.args.customer.now) (read_id c.args.broker.now) (read_name c.args.name.now)
    (read_tax_status c.args.tax_status.now) (read_opening_balance c.args.opening.now)
    (sym c.in_default-parse_id.ensures)

pub returns-in_default-parse_id-2 : goal.returns-in_default-parse_id-2
returns-in_default-parse_id-2 c =
    third_of_six_refused _ (read_id c.args.id.now) (read_id c.args.customer.now) (read_id c.args.broker.now) (read_name c.args.name.now)
    (read_tax_status c.args.tax_status.now) (read_opening_balance c.args.opening.now)
    (sym c.in_default-parse_id-2.ensures)

pub returns-in_default-parse_tax_status : goal.returns-in_default-parse_tax_status
returns-in_default-parse_tax_status c =
    fifth_of_six_refused _ (read_id c.args.id.now) (read_id c.args.customer.now) (read_id c.args.broker.now) (read_name c.args.name.now)
    (read_tax_status c.args.tax_status.now) (read_opening_balance c.args.opening.now)
    (sym c.in_default-parse_tax_status.ensures)

pub returns-in_default-parse_balance : goal.returns-in_default-parse_balance
returns-in_default-parse_balance c =
    sixth_of_six_refused _ (read_id c.args.id.now) (read_id c.args.customer.now) (read_id c.args.broker.now) (read_name c.args.name.now)
    (read_tax_status c.args.tax_status.now) (read_opening_balance c.args.opening.now)
    (sym c.in_default-parse_balance.ensures)

pub returns-in_default-2 : goal.returns-in_default-2
returns-in_default-2 c =
    fourth_of_six_refused _ (read_id c.args.id.now) (read_id c.args.customer.now) (read_id c.args.broker.now) (read_name c.args.name.now)
    (read_tax_status c.args.tax_status.now) (read_opening_balance c.args.opening.now)
    (sym c.in_ok-name.ensures.read ∙ ap (λ o. ok_or o BadText) c.in_default-2.is)
