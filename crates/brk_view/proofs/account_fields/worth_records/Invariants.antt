use Rattle.std.proofs.Common.{◌≡◌, map, take}
use Rattle.brk_view_rows.specs.Views.{texts_of_records}
use Rattle.brk_view_rows.specs.Worths.{account_worth_record}
use Rattle.brk_view.proofs.account_fields.worth_records.Given as goal

abbrev pub invariant-loop-account : goal.invariant-loop-account
invariant-loop-account l = texts_of_records l.records ≡ map account_worth_record (take l.account-index l.accounts)
