-- The records that the examples of single rules use.
use Rattle.std.specs.Prelude.{pos, false, codes}
use Rattle.brk_money.specs.declared.tax_status.TaxStatus.{TaxStatus}
use Rattle.brk_model.specs.Records.{Account, Customer, Executor, Permission, Trade}
use Rattle.brk_model_examples.specs.Trading.{first_purchase}

-- The account of `setting_base` with its tax status replaced by `status`.
abbrev pub account_with_tax_status : TaxStatus → Account
account_with_tax_status status = record { id = 100; customer = 10; broker = 1; name = codes "Main"; tax_status = status; opening = pos 1000000 }

-- The trade `first_purchase` as a margin trade, with all else unchanged, also its cash type and the
-- name of its cash row.
abbrev pub first_purchase_on_margin : Trade
first_purchase_on_margin = record first_purchase { is_cash = false }

-- The customer of `setting_base`, Ann Lee.
abbrev pub customer_ann_lee : Customer
customer_ann_lee = record { id = 10; tier = 1; tax_id = codes "T10"; last_name = codes "Lee"; first_name = codes "Ann" }

-- The executor who has the names and the tax id of the customer Ann Lee.
abbrev pub executor_with_customer_identity : Executor
executor_with_customer_identity = record { first_name = codes "Ann"; last_name = codes "Lee"; tax_id = codes "T10" }

-- An executor who has the names of the customer Ann Lee and another tax id.
abbrev pub executor_with_other_tax_id : Executor
executor_with_other_tax_id = record { first_name = codes "Ann"; last_name = codes "Lee"; tax_id = codes "T11" }

-- A permission with the names and the tax id of `executor_with_other_tax_id`.
abbrev pub permission_with_other_tax_id : Permission
permission_with_other_tax_id = record { account = 100; acl = codes "0000"; tax_id = codes "T11"; last_name = codes "Lee"; first_name = codes "Ann" }

-- A permission with another last name, and with the first name and the tax id of
-- `executor_with_other_tax_id`.
abbrev pub permission_with_other_last_name : Permission
permission_with_other_last_name = record { account = 100; acl = codes "0000"; tax_id = codes "T11"; last_name = codes "Kay"; first_name = codes "Ann" }
