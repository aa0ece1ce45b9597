-- The fields of a refusal.
use Rattle.std.proofs.Common.{◌≡◌, refl}
use Rattle.std.specs.Fmt.{digits}
use Rattle.brk_money.specs.Kinds.{refusal_fields, refusal_text}
use Rattle.brk_money.specs.declared.refusal.Refusal.{Refusal}
use Rattle.brk_money.specs.declared.refusal.Refusal.TheVariants.{BadText, BadQty, BadPrice, BadType, TooMany, KeyReused, NoAccount, NoCustomer, NoBroker}
use Rattle.brk_money.specs.declared.refusal.Refusal.TheVariants.{NoSecurity, NoTrade, NoTax, WrongStatus, NotPermitted, Exists, Overlap, TaxSum, NoCharge}
use Rattle.brk_money.specs.declared.refusal.Refusal.TheVariants.{NoRate, Range, ClockEnd, TooEarly}
use Rattle.brk_money.specs.declared.refusal.Limit.TheVariants as limit
use Rattle.brk_money.specs.declared.status.Status.TheVariants as status
use Rattle.brk_model_http.specs.Routes.{split_at_byte}

-- the text of a refusal has its fields
pub refusal_parts : (refusal : Refusal) → split_at_byte 44 (refusal_text refusal) ≡ refusal_fields refusal
unfolding split_at_byte digits
refusal_parts BadText = refl
refusal_parts BadQty = refl
refusal_parts BadPrice = refl
refusal_parts BadType = refl
refusal_parts TooMany = refl
refusal_parts KeyReused = refl
refusal_parts NoAccount = refl
refusal_parts NoCustomer = refl
refusal_parts NoBroker = refl
refusal_parts NoSecurity = refl
refusal_parts NoTrade = refl
refusal_parts NoTax = refl
refusal_parts NotPermitted = refl
refusal_parts Exists = refl
refusal_parts Overlap = refl
refusal_parts TaxSum = refl
refusal_parts NoCharge = refl
refusal_parts NoRate = refl
refusal_parts ClockEnd = refl
refusal_parts TooEarly = refl
refusal_parts (WrongStatus status.Completed) = refl
refusal_parts (WrongStatus status.Submitted) = refl
refusal_parts (WrongStatus status.Pending) = refl
refusal_parts (WrongStatus status.Canceled) = refl
refusal_parts (WrongStatus status.Active) = refl
refusal_parts (Range limit.Summary) = refl
refusal_parts (Range limit.Balance) = refl
refusal_parts (Range limit.Broker) = refl
refusal_parts (Range limit.Volume) = refl
refusal_parts (Range limit.Trades) = refl
refusal_parts (Range limit.Accounts) = refl
refusal_parts (Range limit.Moves) = refl
