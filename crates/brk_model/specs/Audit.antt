-- The conditions that an audit checks on tables, each only if those before it are satisfied.
use Rattle.std.specs.Prelude.{◌≡◌, ◌⊎◌, List, [], ◌∷◌, map, Option, Some, None, IsTrue}
use Rattle.brk_money.specs.declared.fault.Condition.{Condition}
use Rattle.brk_money.specs.declared.fault.Condition.TheVariants as condition
use Rattle.brk_model.specs.Schemas.{Schema}
use Rattle.brk_model.specs.Tables.{Tables}
use Rattle.brk_model.specs.Sheets.{sheets_in_schema}
use Rattle.brk_model.specs.Adopted.{base_of_tables}
use Rattle.brk_model.specs.Form.{satisfies_form_condition}
use Rattle.brk_model.specs.Ways.{satisfies_status_condition}

-- The tables in the schema `schema`, sorted by key, of the `base_of_tables` of the tables `t`.
abbrev pub expected_tables : Schema → Tables → Tables
expected_tables schema t = sheets_in_schema schema (base_of_tables t)

-- The tables `t` of the schema `schema`, each sorted by key, satisfy the condition: for `Form` and
-- `Status`, their check is true; for any other condition on rows, the tables or the column that it
-- concerns equal those of `expected_tables`. `NotEmpty` and `Schema`, of a database, never hold.
unfoldable pub ConditionHolds : Schema → Condition → Tables → Type 0
ConditionHolds schema condition.NotEmpty t = ⊥
ConditionHolds schema condition.Schema t = ⊥
ConditionHolds schema condition.Form t = IsTrue (satisfies_form_condition schema t)
ConditionHolds schema condition.Status t = IsTrue (satisfies_status_condition t)
ConditionHolds schema condition.Requests t = t.requests ≡ (expected_tables schema t).requests
ConditionHolds schema condition.Lots t = t.holdings ≡ (expected_tables schema t).holdings
ConditionHolds schema condition.History t = t.holding_history ≡ (expected_tables schema t).holding_history
ConditionHolds schema condition.Summary t = t.summaries ≡ (expected_tables schema t).summaries
ConditionHolds schema condition.Count t = map (λ b. b.trades) t.brokers ≡ map (λ b. b.trades) (expected_tables schema t).brokers
ConditionHolds schema condition.Commission t = map (λ b. b.commissions) t.brokers ≡ map (λ b. b.commissions) (expected_tables schema t).brokers
ConditionHolds schema condition.Settlement t = t.settlements ≡ (expected_tables schema t).settlements
ConditionHolds schema condition.Cash t = (t.cash ≡ (expected_tables schema t).cash) × (t.moves ≡ (expected_tables schema t).moves)
ConditionHolds schema condition.Balance t = map (λ a. a.balance) t.accounts ≡ map (λ a. a.balance) (expected_tables schema t).accounts

-- The conditions on rows, in the sequence in which an audit checks them.
abbrev pub row_conditions : List Condition
row_conditions =
    condition.Form ∷ condition.Status ∷ condition.Requests ∷ condition.Lots ∷ condition.History ∷ condition.Summary ∷ condition.Count
    ∷ condition.Commission ∷ condition.Settlement ∷ condition.Cash ∷ condition.Balance ∷ []

-- The answer is the first of the listed conditions that the tables `t` do not satisfy, or none.
abbrev pub IsFirstFailingCondition : Schema → List Condition → Tables → Option Condition → Type 0
IsFirstFailingCondition schema [] t answer = answer ≡ None
IsFirstFailingCondition schema (c ∷ cs) t answer =
    (ConditionHolds schema c t × IsFirstFailingCondition schema cs t answer) ⊎ ((¬ ConditionHolds schema c t) × (answer ≡ Some c))

-- The answer is the result of an audit of the tables `t` of the schema `schema`, sorted by key: the
-- first condition of `row_conditions` that they do not satisfy, or none if they satisfy all.
abbrev pub IsAuditResult : Schema → Tables → Option Condition → Type 0
IsAuditResult schema t answer = IsFirstFailingCondition schema row_conditions t answer
