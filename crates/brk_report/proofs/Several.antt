-- The statements of several accounts, written one after the other.
use Rattle.std.proofs.Common.{◌≡◌, ◌∙◌, ◌+◌, ◌<◌, ◌++◌, ◌==◌, ℕ, Bool, true, false, List, [], ◌∷◌, Option, Some, None, Result, Ok, Err, IfErr, suc, zero, ap, append-nil, arith, drop, filter, find, get_or, inl, inr, length, map, refl, subst, sym, take}
use Rattle.std.specs.Prelude.{flat_map, is_some, nat_lt}
use Rattle.std.specs.Io.KnownBytes.{Appends}
use Rattle.std.proofs.lemmas.Bool.{eq-eqb, eqb-true}
use Rattle.std.proofs.lemmas.List.{append_assoc, take-append-drop, take_more}
use Rattle.brk_money.specs.Spelling.{Text}
use Rattle.brk_money.specs.declared.fault.CallFault.TheVariants as call
use Rattle.brk_money.specs.declared.refusal.Refusal.{Refusal}
use Rattle.brk_money.specs.declared.refusal.Refusal.TheVariants.{BadText}
use Rattle.brk_model.specs.Statement.{sorted_cash_rows_of_account, statement, statement_lines, text_of_lines}
use Rattle.brk_model.specs.Statements.{accounts_or_refusal, statements, text_or_none}
use Rattle.brk_model.specs.Tables.{AccountRow, Tables}
use Rattle.brk_io.specs.declared.report_fault.LinesFault.{LinesFault}
use Rattle.brk_io.specs.declared.report_fault.LinesFault.TheVariants as lines_fault
use Rattle.brk_io.specs.declared.report_fault.ReportFault.{ReportFault}
use Rattle.brk_io.specs.declared.report_fault.ReportFault.TheVariants.{Refused, Desk, Write}
use Rattle.brk_report_lines.specs.Written.{FailsWithinLines, WritesProperPrefixOfLines}
use Rattle.brk_report_lines.proofs.Composed.{breaks_before, breaks_behind, lines_parts}
use Rattle.brk_report.specs.StatementOutput.{AreStatementLines, IsReportFaultOtherThanDamage, WritesStatement}
use Rattle.brk_report.specs.StatementsOutput.{HasAccount, HasAccounts, IsFaultOfCallOrWriter, WritesReportLines, WritesStatements, lines_of_account, without_refusal}
use Rattle.brk_report.proofs.Whole.{passes_found, statement_is}

-- ---- each account that is read exists

abbrev Each : (ℕ → Type 0) → List ℕ → Type 0
Each P [] = Unit {0}
Each P (x ∷ xs) = P x × Each P xs

each_weaker : (P Q : ℕ → Type 0) (xs : List ℕ) → ((n : ℕ) → P n → Q n) → Each P xs → Each Q xs
each_weaker P Q [] weaker h = tt
each_weaker P Q (x ∷ xs) weaker h = (weaker x h.0, each_weaker P Q xs weaker h.1)

as_accounts : (t : Tables) (xs : List ℕ) → Each (HasAccount t) xs → HasAccounts t xs
as_accounts t [] h = tt
as_accounts t (x ∷ xs) h = (h.0, as_accounts t xs h.1)

pub account_at : (t : Tables) (xs : List ℕ) (i x : ℕ) → HasAccounts t xs → i < length xs → x ≡ get_or xs i x → HasAccount t x
account_at t [] i x h lt is = absurd (omega arith)
account_at t (y ∷ ys) zero x h lt is = subst (HasAccount t) (sym is) h.0
account_at t (y ∷ ys) (suc i) x h lt is = account_at t ys i x h.1 (omega arith) is

abbrev IsFound : List AccountRow → ℕ → Type 0
IsFound rows n = (a : AccountRow) × (find (λ (row : AccountRow). row.id == n) rows ≡ Some a)

found_first : (row : AccountRow) (rows : List AccountRow) → IsFound (row ∷ rows) row.id
found_first row rows = (row, rw (eq-eqb row.id row.id refl) refl)

found_later : (row : AccountRow) (rows : List AccountRow) (n : ℕ) → IsFound rows n → IsFound (row ∷ rows) n
found_later row rows n h = go (row.id == n) refl
  where
    go : (b : Bool) → (row.id == n) ≡ b → IsFound (row ∷ rows) n
    go true e = (row, rw e refl)
    go false e = (h.0, rw e h.1)

all_found : (rows : List AccountRow) → Each (IsFound rows) (map (λ row. row.id) rows)
all_found [] = tt
all_found (row ∷ rows) = (found_first row rows, each_weaker (IsFound rows) (IsFound (row ∷ rows)) _ (found_later row rows) (all_found rows))

some_found : (p : AccountRow → Bool) (rows : List AccountRow) → Each (IsFound rows) (map (λ row. row.id) (filter p rows))
some_found p [] = tt
some_found p (row ∷ rows) = go (p row) refl (each_weaker (IsFound rows) (IsFound (row ∷ rows)) _ (found_later row rows) (some_found p rows))
  where
    go : (b : Bool) → p row ≡ b → Each (IsFound (row ∷ rows)) (map (λ row. row.id) (filter p rows)) → Each (IsFound (row ∷ rows)) (map (λ row. row.id) (filter p (row ∷ rows)))
    go true e later = rw e (found_first row rows, later)
    go false e later = rw e later

pub accounts_exist : (t : Tables) (customer : Option ℕ) (accounts : List ℕ) → accounts_or_refusal t customer ≡ Ok accounts → HasAccounts t accounts
accounts_exist t None accounts e =
    let same : map (λ (row : AccountRow). row.id) t.accounts ≡ accounts = cc in
    as_accounts t accounts (subst (Each (HasAccount t)) same (all_found t.accounts))
accounts_exist t (Some customer) accounts e = go (is_some (find (λ c. c.id == customer) t.customers)) refl
  where
    go : (b : Bool) → is_some (find (λ c. c.id == customer) t.customers) ≡ b → HasAccounts t accounts
    go true is =
        let found : Ok (map (λ (row : AccountRow). row.id) (filter (λ a. a.customer == customer) t.accounts)) ≡ Ok accounts = rw is at e in
        let same : map (λ (row : AccountRow). row.id) (filter (λ a. a.customer == customer) t.accounts) ≡ accounts = cc in
        as_accounts t accounts (subst (Each (HasAccount t)) same (some_found (λ a. a.customer == customer) t.accounts))
    go false is = let refused = rw is at e in cc

-- ---- the statement of one of them

module _ (t : Tables) (account from to : ℕ) (days : nat_lt to from ≡ false) (has : HasAccount t account) where
  abbrev its_lines : List Text
  its_lines = statement_lines t has.0 from to (sorted_cash_rows_of_account t has.0.id)

  are_its : lines_of_account t from to account ≡ its_lines
  are_its = rw has.1 refl

  its_id : has.0.id ≡ account
  its_id = eqb-true has.0.id account (passes_found (λ (row : AccountRow). row.id == account) t.accounts has.0 has.1)

  are_lines : AreStatementLines t account from to its_lines
  are_lines = (days, (has.0, has.1, ap (λ (n : ℕ). statement_lines t has.0 from to (sorted_cash_rows_of_account t n)) its_id))

  pub its_text : statement t account from to ≡ Ok (text_of_lines (lines_of_account t from to account))
  its_text = statement_is t account from to its_lines are_lines ∙ ap (λ (l : List Text). Ok (text_of_lines l)) (sym are_its)

  same_as_its : (l : List Text) → AreStatementLines t account from to l → l ≡ lines_of_account t from to account
  same_as_its l h =
      let row : h.1.0 ≡ has.0 = let both : Some h.1.0 ≡ Some has.0 = sym h.1.1 ∙ has.1 in cc in
      h.1.2 ∙ (λ i. statement_lines t (row i) from to (sorted_cash_rows_of_account t (sym its_id i))) ∙ sym are_its

  none_yet : (a b : Option Text) → Appends a b [] → WritesProperPrefixOfLines (lines_of_account t from to account) a b
  none_yet a b h = subst (λ (l : List Text). WritesProperPrefixOfLines l a b) (sym are_its) ([], _, _, refl, h)

  -- what writing its statement did; it is not refused
  pub told_once : (a b : Option Text) (r : Result (Unit {0}) ReportFault) → WritesStatement t account from to a b r
      → WritesReportLines (lines_of_account t from to account) a b (without_refusal r)
  told_once a b (Ok u) h =
      let same : Ok h.0 ≡ Ok (text_of_lines (lines_of_account t from to account)) = sym h.1 ∙ its_text in
      let text : h.0 ≡ text_of_lines (lines_of_account t from to account) = cc in
      subst (Appends a b) text h.2
  told_once a b (Err (Refused refusal)) h =
      let both : Ok (text_of_lines (lines_of_account t from to account)) ≡ Err refusal = sym its_text ∙ h in
      absurd (let differ = both in cc)
  told_once a b (Err (Desk fault)) h = (
    h.0,
    elim h.1 [
      | inl none ↦ none_yet a b none
      | inr some ↦ subst (λ (l : List Text). WritesProperPrefixOfLines l a b) (same_as_its some.0 some.1) some.2
    ],
  )
  told_once a b (Err Write) h = subst (λ (l : List Text). FailsWithinLines l a b lines_fault.Write) (same_as_its h.0 h.1) h.2

-- ---- one after the other

flat_parts : {X Y : Type 0} (f : X → List Y) (xs ys : List X) → flat_map f (xs ++ ys) ≡ flat_map f xs ++ flat_map f ys
flat_parts f [] ys = refl
flat_parts f (x ∷ xs) ys = ap (λ l. f x ++ l) (flat_parts f xs ys) ∙ sym (append_assoc (f x) (flat_map f xs) (flat_map f ys))

pub one_more : (f : ℕ → List Text) (xs : List ℕ) (i x : ℕ) → i < length xs → x ≡ get_or xs i x → flat_map f (take (i + 1) xs) ≡ flat_map f (take i xs) ++ f x
one_more f xs i x lt is =
    ap (flat_map f) (take_more xs i x lt ∙ ap (λ (y : ℕ). take i xs ++ y ∷ []) (sym is))
    ∙ flat_parts f (take i xs) (x ∷ [])
    ∙ ap (λ l. flat_map f (take i xs) ++ l) (append-nil (f x))

at_one : (f : ℕ → List Text) (xs : List ℕ) (i x : ℕ) → i < length xs → x ≡ get_or xs i x
    → (flat_map f (take i xs) ++ f x) ++ flat_map f (drop (i + 1) xs) ≡ flat_map f xs
at_one f xs i x lt is =
    ap (λ l. l ++ flat_map f (drop (i + 1) xs)) (sym (one_more f xs i x lt is))
    ∙ sym (flat_parts f (take (i + 1) xs) (drop (i + 1) xs))
    ∙ ap (flat_map f) (take-append-drop (i + 1) xs)

-- where one breaks off, all do
break_at : (f : ℕ → List Text) (xs : List ℕ) (i x : ℕ) (a b c : Option Text) (e : LinesFault) → i < length xs → x ≡ get_or xs i x
    → Appends a b (text_of_lines (flat_map f (take i xs))) → FailsWithinLines (f x) b c e → FailsWithinLines (flat_map f xs) a c e
break_at f xs i x a b c e lt is before h =
    subst (λ (l : List Text). FailsWithinLines l a c e) (at_one f xs i x lt is)
    (breaks_before (flat_map f (take i xs) ++ f x) (flat_map f (drop (i + 1) xs)) a c e (breaks_behind (flat_map f (take i xs)) (f x) a b c e before h))

pub all_break : (f : ℕ → List Text) (xs : List ℕ) (i x : ℕ) (a b c : Option Text) (e : ReportFault) → i < length xs → x ≡ get_or xs i x
    → Appends a b (text_of_lines (flat_map f (take i xs))) → WritesReportLines (f x) b c (Err e) → WritesReportLines (flat_map f xs) a c (Err e)
all_break f xs i x a b c (Refused refusal) lt is before h = absurd h
all_break f xs i x a b c (Desk fault) lt is before h = (h.0, break_at f xs i x a b c (lines_fault.Desk call.Store) lt is before h.1)
all_break f xs i x a b c Write lt is before h = break_at f xs i x a b c lines_fault.Write lt is before h

module _ (t : Tables) (customer : Option ℕ) (from to : ℕ) (days : nat_lt to from ≡ false) (accounts : List ℕ) (read : accounts_or_refusal t customer ≡ Ok accounts) where
  texts_are : (ids : List ℕ) → HasAccounts t ids
      → text_of_lines (flat_map (lines_of_account t from to) ids) ≡ flat_map (λ account. text_or_none (statement t account from to)) ids
  texts_are [] each = refl
  texts_are (id ∷ ids) each =
      lines_parts (lines_of_account t from to id) (flat_map (lines_of_account t from to) ids)
      ∙ (λ i. ap text_or_none (sym (its_text t id from to days each.0)) i ++ texts_are ids each.1 i)

  whole_text : statements t customer from to ≡ Ok (text_of_lines (flat_map (lines_of_account t from to) accounts))
  unfolding statements
  whole_text = rw (days, read) (ap Ok (sym (texts_are accounts (accounts_exist t customer accounts read))))

  -- what writing the lines of the accounts did
  pub states_each : (a b : Option Text) (r : Result (Unit {0}) ReportFault) → WritesReportLines (flat_map (lines_of_account t from to) accounts) a b r
      → WritesStatements t customer from to a b r
  states_each a b (Ok u) h = (text_of_lines (flat_map (lines_of_account t from to) accounts), whole_text, h)
  states_each a b (Err (Refused refusal)) h = absurd h
  states_each a b (Err (Desk fault)) h = (h.0, inr (flat_map (lines_of_account t from to) accounts, (days, (accounts, read, refl)), h.1))
  states_each a b (Err Write) h = (flat_map (lines_of_account t from to) accounts, (days, (accounts, read, refl)), h)

-- no fault of the lines is a refusal
pub lines_fault_is_report_fault : (r : Result (Unit {0}) ReportFault) → IfErr r IsFaultOfCallOrWriter → IfErr r IsReportFaultOtherThanDamage
lines_fault_is_report_fault (Ok u) h = tt
lines_fault_is_report_fault (Err (Refused refusal)) h = absurd h
lines_fault_is_report_fault (Err (Desk fault)) h = h
lines_fault_is_report_fault (Err Write) h = tt

pub lines_are_not_refused : (r : Result (Unit {0}) ReportFault) (refusal : Refusal) → IfErr r IsFaultOfCallOrWriter → r ≡ Err (Refused refusal) → ⊥
lines_are_not_refused r refusal h is = subst (λ (x : Result (Unit {0}) ReportFault). IfErr x IsFaultOfCallOrWriter) is h

pub refused_for_days : (t : Tables) (customer : Option ℕ) (from to : ℕ) → nat_lt to from ≡ true → statements t customer from to ≡ Err BadText
unfolding statements
refused_for_days t customer from to late = rw late refl

pub refused_for_customer : (t : Tables) (customer : Option ℕ) (from to : ℕ) (refusal : Refusal) → nat_lt to from ≡ false → accounts_or_refusal t customer ≡ Err refusal
    → statements t customer from to ≡ Err refusal
unfolding statements
refused_for_customer t customer from to refusal days refused = rw (days, refused) refl
