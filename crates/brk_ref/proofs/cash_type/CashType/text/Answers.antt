use Rattle.std.proofs.Common.{refl}
use Rattle.brk_ref.proofs.cash_type.CashType.text.Goals as goal

pub returns-in-CashAccount : goal.returns-in-CashAccount
returns-in-CashAccount c = rw c.in-CashAccount.is refl

pub returns-in-MarginAccount : goal.returns-in-MarginAccount
returns-in-MarginAccount c = rw c.in-MarginAccount.is refl
