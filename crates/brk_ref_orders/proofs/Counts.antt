-- The number of fields of a cancel, a result, a movement, a day and an order.
use Rattle.std.proofs.Common.{◌≡◌, ℕ, refl, length, List, [], ◌∷◌, get_or, arith}
use Rattle.std.specs.Borrow.{Bor}
use Rattle.std.specs.Prelude.{Ok, Err}
use Rattle.brk_money.specs.declared.refusal.Refusal.TheVariants.{BadText}
use Rattle.brk_model.specs.Commands.{Command, CompleteTrade}
use Rattle.brk_model.specs.Forms.{◌⊛◌, read_movement_amount, read_id, read_price}
use Rattle.brk_model.specs.Parse.{read_id_of_trade_to_cancel, read_movement_command, read_one_day_settlement_start, read_order, read_complete_trade_command}
use Rattle.brk_ref.specs.Fields.{texts_of_fields}
use Rattle.brk_ref.proofs.Applied.{text_left, text_right}

-- a cancel has one field
pub not_cancel : (fields : List (Bor (List ℕ))) → (length fields ≡ 1 → ⊥) → read_id_of_trade_to_cancel (texts_of_fields fields) ≡ Err BadText
not_cancel [] h = refl
not_cancel (a ∷ []) h = absurd (h refl)
not_cancel (a ∷ b ∷ rest) h = refl

-- a result has two
pub not_result : (fields : List (Bor (List ℕ))) → (length fields ≡ 2 → ⊥) → read_complete_trade_command (texts_of_fields fields) ≡ Err BadText
not_result [] h = refl
not_result (a ∷ []) h = refl
not_result (a ∷ b ∷ []) h = absurd (h refl)
not_result (a ∷ b ∷ c ∷ rest) h = refl

-- and where its trade is refused, it is
pub no_trade : (fields : List (Bor (List ℕ))) (d : Bor (List ℕ)) → length fields ≡ 2 → read_id (get_or fields 0 d).now ≡ Err BadText
    → read_complete_trade_command (texts_of_fields fields) ≡ Err BadText
no_trade [] d h e = absurd (omega (arith, h))
no_trade (a ∷ []) d h e = absurd (omega (arith, h))
no_trade (a ∷ b ∷ []) d h e =
    text_left (Ok (λ t p. CompleteTrade t p) ⊛ read_id a.now) (read_price b.now) (text_right (Ok (λ t p. CompleteTrade t p)) (read_id a.now) e)
no_trade (a ∷ b ∷ c ∷ rest) d h e = absurd (omega (arith, h))

-- so has a movement
pub not_movement : (moved : ℕ → ℕ → Command) (fields : List (Bor (List ℕ))) → (length fields ≡ 2 → ⊥) → read_movement_command moved (texts_of_fields fields) ≡ Err BadText
not_movement moved [] h = refl
not_movement moved (a ∷ []) h = refl
not_movement moved (a ∷ b ∷ []) h = absurd (h refl)
not_movement moved (a ∷ b ∷ c ∷ rest) h = refl

-- and where its account is refused, it is
pub no_account : (moved : ℕ → ℕ → Command) (fields : List (Bor (List ℕ))) (d : Bor (List ℕ)) → length fields ≡ 2 → read_id (get_or fields 0 d).now ≡ Err BadText
    → read_movement_command moved (texts_of_fields fields) ≡ Err BadText
no_account moved [] d h e = absurd (omega (arith, h))
no_account moved (a ∷ []) d h e = absurd (omega (arith, h))
no_account moved (a ∷ b ∷ []) d h e =
    text_left (Ok (λ a n. moved a n) ⊛ read_id a.now) (read_movement_amount b.now) (text_right (Ok (λ a n. moved a n)) (read_id a.now) e)
no_account moved (a ∷ b ∷ c ∷ rest) d h e = absurd (omega (arith, h))

-- a first day of one-day settlement has one
pub not_one_day : (fields : List (Bor (List ℕ))) → (length fields ≡ 1 → ⊥) → read_one_day_settlement_start (texts_of_fields fields) ≡ Err BadText
not_one_day [] h = refl
not_one_day (a ∷ []) h = absurd (h refl)
not_one_day (a ∷ b ∷ rest) h = refl

-- an order has ten
pub not_order : (fields : List (Bor (List ℕ))) → (length fields ≡ 10 → ⊥) → read_order (texts_of_fields fields) ≡ Err BadText
not_order [] h = refl
not_order (a ∷ []) h = refl
not_order (a ∷ b ∷ []) h = refl
not_order (a ∷ b ∷ c ∷ []) h = refl
not_order (a ∷ b ∷ c ∷ d ∷ []) h = refl
not_order (a ∷ b ∷ c ∷ d ∷ e ∷ []) h = refl
not_order (a ∷ b ∷ c ∷ d ∷ e ∷ f ∷ []) h = refl
not_order (a ∷ b ∷ c ∷ d ∷ e ∷ f ∷ g ∷ []) h = refl
not_order (a ∷ b ∷ c ∷ d ∷ e ∷ f ∷ g ∷ i ∷ []) h = refl
not_order (a ∷ b ∷ c ∷ d ∷ e ∷ f ∷ g ∷ i ∷ j ∷ []) h = refl
not_order (a ∷ b ∷ c ∷ d ∷ e ∷ f ∷ g ∷ i ∷ j ∷ k ∷ []) h = absurd (h refl)
not_order (a ∷ b ∷ c ∷ d ∷ e ∷ f ∷ g ∷ i ∷ j ∷ k ∷ l ∷ rest) h = refl

-- the texts of ten fields, one by one
pub ten_texts : (fields : List (Bor (List ℕ))) (d : Bor (List ℕ)) → length fields ≡ 10
    → (get_or fields 0 d).now ∷ (get_or fields 1 d).now ∷ (get_or fields 2 d).now ∷ (get_or fields 3 d).now ∷ (get_or fields 4 d).now
    ∷ (get_or fields 5 d).now ∷ (get_or fields 6 d).now ∷ (get_or fields 7 d).now ∷ (get_or fields 8 d).now ∷ (get_or fields 9 d).now ∷ [] ≡ texts_of_fields fields
ten_texts [] d h = absurd (omega (arith, h))
ten_texts (a ∷ []) d h = absurd (omega (arith, h))
ten_texts (a ∷ b ∷ []) d h = absurd (omega (arith, h))
ten_texts (a ∷ b ∷ c ∷ []) d h = absurd (omega (arith, h))
ten_texts (a ∷ b ∷ c ∷ e ∷ []) d h = absurd (omega (arith, h))
ten_texts (a ∷ b ∷ c ∷ e ∷ f ∷ []) d h = absurd (omega (arith, h))
ten_texts (a ∷ b ∷ c ∷ e ∷ f ∷ g ∷ []) d h = absurd (omega (arith, h))
ten_texts (a ∷ b ∷ c ∷ e ∷ f ∷ g ∷ i ∷ []) d h = absurd (omega (arith, h))
ten_texts (a ∷ b ∷ c ∷ e ∷ f ∷ g ∷ i ∷ j ∷ []) d h = absurd (omega (arith, h))
ten_texts (a ∷ b ∷ c ∷ e ∷ f ∷ g ∷ i ∷ j ∷ k ∷ []) d h = absurd (omega (arith, h))
ten_texts (a ∷ b ∷ c ∷ e ∷ f ∷ g ∷ i ∷ j ∷ k ∷ l ∷ []) d h = refl
ten_texts (a ∷ b ∷ c ∷ e ∷ f ∷ g ∷ i ∷ j ∷ k ∷ l ∷ m ∷ rest) d h = absurd (omega (arith, h))
