-- A row of none of the first kinds is parsed by the parsers of the other kinds.
use Rattle.std.proofs.Common.{◌≡◌, ◌≢◌, List, Bool, true, false, refl, codes, sym, ◌∙◌}
use Rattle.std.specs.Prelude.{◌∷◌, ◌++◌, Err, bytes_eq}
use Rattle.std.proofs.lemmas.Bool.{false_from_ne_true}
use Rattle.std.proofs.lemmas.Slice.Eq.{bytes_eq-Decides}
use Rattle.brk_money.specs.Spelling.{Text}
use Rattle.brk_money.specs.declared.refusal.Refusal.TheVariants.{BadText}
use Rattle.brk_model.specs.Parse.{parse_by_first_field, order_feed_and_cancel_parsers, row_parsers, result_row_parsers, other_reference_row_parsers}
use Rattle.brk_model.specs.Parse.{update_row_parsers, movement_and_one_day_settlement_row_parsers}

-- another text is not equal
other : (known kind : Text) → kind ≢ known → bytes_eq known kind ≡ false
other known kind h = false_from_ne_true (bytes_eq known kind) (λ e. h (sym ((bytes_eq-Decides known kind).0 e)))

-- a row that is of none of the parties' kinds is read as one of what they agree on
pub no_party : (kind : Text) (fields : List Text) → kind ≢ codes "broker" → kind ≢ codes "customer" → kind ≢ codes "account"
    → parse_by_first_field row_parsers (kind ∷ fields)
    ≡ parse_by_first_field
    (other_reference_row_parsers ++ order_feed_and_cancel_parsers ++ result_row_parsers ++ update_row_parsers ++ movement_and_one_day_settlement_row_parsers)
    (kind ∷ fields)
no_party kind fields b c a = rw (other (codes "broker") kind b, other (codes "customer") kind c, other (codes "account") kind a) refl

-- one of none of those kinds either, as one of orders and results
pub no_term : (kind : Text) (fields : List Text) → kind ≢ codes "permission" → kind ≢ codes "security" → kind ≢ codes "charge"
    → kind ≢ codes "band" → kind ≢ codes "taxrate" → kind ≢ codes "custtax"
    → parse_by_first_field
    (other_reference_row_parsers ++ order_feed_and_cancel_parsers ++ result_row_parsers ++ update_row_parsers ++ movement_and_one_day_settlement_row_parsers)
    (kind ∷ fields) ≡ parse_by_first_field (order_feed_and_cancel_parsers ++ result_row_parsers ++ update_row_parsers ++ movement_and_one_day_settlement_row_parsers)
    (kind ∷ fields)
no_term kind fields p s c b t x =
    rw (
      other (codes "permission") kind p,
      other (codes "security") kind s,
      other (codes "charge") kind c,
      other (codes "band") kind b,
      other (codes "taxrate")
          kind t,
      other (codes "custtax") kind x,
    ) refl

-- one of none of those, as one of corrections
pub no_trading : (kind : Text) (fields : List Text) → kind ≢ codes "order" → kind ≢ codes "feed" → kind ≢ codes "cancel" → kind ≢ codes "result"
    → parse_by_first_field (order_feed_and_cancel_parsers ++ result_row_parsers ++ update_row_parsers ++ movement_and_one_day_settlement_row_parsers) (kind ∷ fields)
    ≡ parse_by_first_field (update_row_parsers ++ movement_and_one_day_settlement_row_parsers) (kind ∷ fields)
no_trading kind fields o f c r = rw (other (codes "order") kind o, other (codes "feed") kind f, other (codes "cancel") kind c, other (codes "result") kind r) refl

-- one of none of those, as a movement or a first day of one-day settlement
pub no_update : (kind : Text) (fields : List Text) → kind ≢ codes "upname" → kind ≢ codes "upcash" → kind ≢ codes "uptext"
    → parse_by_first_field (update_row_parsers ++ movement_and_one_day_settlement_row_parsers) (kind ∷ fields) ≡ parse_by_first_field movement_and_one_day_settlement_row_parsers (kind ∷ fields)
no_update kind fields n c t = rw (other (codes "upname") kind n, other (codes "upcash") kind c, other (codes "uptext") kind t) refl

-- a row of another kind is refused
pub unknown_kind : (kind : Text) (fields : List Text) → kind ≢ codes "deposit" → kind ≢ codes "withdraw" → kind ≢ codes "oneday"
    → parse_by_first_field movement_and_one_day_settlement_row_parsers (kind ∷ fields) ≡ Err BadText
unknown_kind kind fields d w o = rw (other (codes "deposit") kind d, other (codes "withdraw") kind w, other (codes "oneday") kind o) refl

-- what a comparison with a known text tells
pub same_text : (kind slice known : Text) (r : Bool) → r ≡ bytes_eq kind slice → slice ≡ known → r ≡ true → kind ≡ known
same_text kind slice known r e s t = (bytes_eq-Decides kind slice).0 (sym e ∙ t) ∙ s

pub other_text : (kind slice known : Text) (r : Bool) → r ≡ bytes_eq kind slice → slice ≡ known → r ≡ false → kind ≢ known
other_text kind slice known r e s f h = let yes = (bytes_eq-Decides kind slice).1 (h ∙ sym s) in absurd (cc)
