-- The postconditions of the calls that write the statements of several accounts.
use Rattle.std.proofs.Common.{◌≡◌, ◌+◌, ◌<◌, ◌≤◌, ℕ, true, false, List, Option, Result, Ok, Err, IfErr, arith, get_or, inl, inr, length, refl, subst, sym, take}
use Rattle.std.specs.Prelude.{IsErrAnd, flat_map, nat_lt}
use Rattle.std.specs.Global.{Vec}
use Rattle.std.specs.Io.KnownBytes.{Appends}
use Rattle.std.proofs.lemmas.Bool.Decides.{nat_tests}
use Rattle.std.proofs.lemmas.List.{take_all}
use Rattle.sqlite_trees.specs.declared.store.Store.{Ghosts}
use Rattle.sqlite.specs.Held.{Held}
use Rattle.brk_money.specs.Spelling.{Text}
use Rattle.brk_money.specs.declared.fault.CallFault.{CallFault}
use Rattle.brk_money.specs.Kinds.{fault_of_call}
use Rattle.brk_money.specs.declared.refusal.Refusal.{Refusal}
use Rattle.brk_money.specs.declared.refusal.Refusal.TheVariants.{BadText}
use Rattle.brk_model.specs.Statement.{text_of_lines}
use Rattle.brk_model.specs.Tables.{Tables}
use Rattle.brk_io.specs.declared.report_fault.ReportFault.{ReportFault}
use Rattle.brk_io.specs.declared.report_fault.ReportFault.TheVariants.{Refused, Desk, Write}
use Rattle.brk_store_transactions.specs.Holds.{ReadPost}
use Rattle.brk_desk.proofs.Asked.{is_call_fault}
use Rattle.brk_desk_queries.specs.Heads.{AreAccountsOfStatements}
use Rattle.brk_report_lines.proofs.Composed.{appends_none, then_all}
use Rattle.brk_report.specs.StatementOutput.{IsReportFaultOtherThanDamage, StatementPost}
use Rattle.brk_report.specs.StatementsOutput.{HasAccount, HasAccounts, IsFaultOfCallOrWriter, ReportLinesPost, StatementsPost, lines_of_account, without_refusal}
use Rattle.brk_report.proofs.Keeping.{clean_then, keeps_read, keeps_still, keeps_then}
use Rattle.brk_report.proofs.Several.{account_at, accounts_exist, all_break, lines_are_not_refused, lines_fault_is_report_fault, refused_for_customer, refused_for_days}
use Rattle.brk_report.proofs.Several.{one_more, states_each, told_once}

not_before : (a b : ℕ) → b ≤ a → nat_lt a b ≡ false
not_before a b h = grind (arith, nat_tests)

module _ {S : Type 0} (g : Ghosts S) where
  module _ (old new : Held S) (account from to : ℕ) (order : from ≤ to) (a b : Option Text) where
    days : nat_lt to from ≡ false
    days = not_before to from order

    fault_of : (r : Result (Unit {0}) ReportFault) → IfErr r IsReportFaultOtherThanDamage → IfErr (without_refusal r) IsFaultOfCallOrWriter
    fault_of (Ok u) fault = tt
    fault_of (Err (Refused refusal)) fault = inr refl
    fault_of (Err (Desk f)) fault = fault
    fault_of (Err Write) fault = tt

    pub one_told : (r : Result (Unit {0}) ReportFault) → StatementPost g old new account from to a b r
        → ReportLinesPost g old new (λ t. HasAccount t account) (λ t. lines_of_account t from to account) a b (without_refusal r)
    one_told r post = record {
      written = λ clean t holds has. told_once t account from to days has a b r (post.written clean t holds);
      fault = fault_of r post.fault;
      desk_unchanged = post.desk_unchanged;
    }

  module _ (from to : ℕ) (accounts : List ℕ) where
    -- before the first account
    pub none_told : (store : Held S) (a : Option Text)
        → ReportLinesPost g store store (λ t. HasAccounts t accounts) (λ t. flat_map (lines_of_account t from to) (take 0 accounts)) a a (Ok tt)
    none_told store a = record { written = λ clean t holds has. appends_none a; fault = tt; desk_unchanged = keeps_still g store }

    module _ (old mid new : Held S) (a b c : Option Text) (i account : ℕ) (lt : i < length accounts) (is : account ≡ get_or accounts i account)
        (before : ReportLinesPost g old mid (λ t. HasAccounts t accounts) (λ t. flat_map (lines_of_account t from to) (take i accounts)) a b (Ok tt)) where
      -- one account more
      pub one_more_told : ReportLinesPost g mid new (λ t. HasAccount t account) (λ t. lines_of_account t from to account) b c (Ok tt)
          → ReportLinesPost g old new (λ t. HasAccounts t accounts) (λ t. flat_map (lines_of_account t from to) (take (i + 1) accounts)) a c (Ok tt)
      one_more_told one = record {
        written = λ clean t holds has.
            let first = before.written (clean_then g mid new one.desk_unchanged clean) t holds has in
            let next = one.written clean t (before.desk_unchanged.same_rows t holds) (account_at t accounts i account has lt is) in
            subst (λ (l : List Text). Appends a c (text_of_lines l)) (sym (one_more (lines_of_account t from to) accounts i account lt is))
            (then_all (flat_map (lines_of_account t from to) (take i accounts)) (lines_of_account t from to account) a b c first next);
        fault = tt;
        desk_unchanged = keeps_then g old mid new before.desk_unchanged one.desk_unchanged;
      }

      -- an account at which writing them fails
      pub told_until : (e : ReportFault) → ReportLinesPost g mid new (λ t. HasAccount t account) (λ t. lines_of_account t from to account) b c (Err e)
          → ReportLinesPost g old new (λ t. HasAccounts t accounts) (λ t. flat_map (lines_of_account t from to) accounts) a c (Err e)
      told_until e one = record {
        written = λ clean t holds has.
            let first = before.written (clean_then g mid new one.desk_unchanged clean) t holds has in
            all_break (lines_of_account t from to) accounts i account a b c e lt is first
            (one.written clean t (before.desk_unchanged.same_rows t holds) (account_at t accounts i account has lt is));
        fault = one.fault;
        desk_unchanged = keeps_then g old mid new before.desk_unchanged one.desk_unchanged;
      }

    -- all accounts
    pub all_told : (old new : Held S) (a b : Option Text) (i : ℕ) → length accounts ≤ i
        → ReportLinesPost g old new (λ t. HasAccounts t accounts) (λ t. flat_map (lines_of_account t from to) (take i accounts)) a b (Ok tt)
        → ReportLinesPost g old new (λ t. HasAccounts t accounts) (λ t. flat_map (lines_of_account t from to) accounts) a b (Ok tt)
    all_told old new a b i most told = subst (λ (xs : List ℕ). ReportLinesPost g old new (λ t. HasAccounts t accounts) (λ t. flat_map (lines_of_account t from to) xs) a b (Ok tt))
        (take_all i accounts most) told

  -- the error is handed on
  pub handed_on : (old new : Held S) (Exist : Tables → Type 0) (lines : Tables → List Text) (a b : Option Text) (outer : Result (Unit {0}) ReportFault) (e : ReportFault)
      → IsErrAnd outer (λ out. out ≡ e) → ReportLinesPost g old new Exist lines a b (Err e) → ReportLinesPost g old new Exist lines a b outer
  handed_on old new Exist lines a b (Err out) e is h = subst (λ (x : ReportFault). ReportLinesPost g old new Exist lines a b (Err x)) (sym is) h
  handed_on old new Exist lines a b (Ok u) e is h = absurd is

  -- the accounts were read, and their lines written
  pub read_and_told : (old mid new : Held S) (customer : Option ℕ) (from to : ℕ) (order : from ≤ to) (accounts : Vec ℕ) (a b : Option Text) (r : Result (Unit {0}) ReportFault)
      → ReadPost {E = CallFault} g old mid (Ok (Ok accounts)) (AreAccountsOfStatements customer)
      → ReportLinesPost g mid new (λ t. HasAccounts t accounts.items) (λ t. flat_map (lines_of_account t from to) accounts.items) a b r
      → StatementsPost g old new customer from to a b r
  read_and_told old mid new customer from to order accounts a b r read told =
      let first = keeps_read g old mid (Ok (Ok accounts)) (AreAccountsOfStatements customer) read in
      record {
        written = λ clean t holds.
            let are = read.answered (clean_then g mid new told.desk_unchanged clean) t holds in
            states_each t customer from to (not_before to from order) accounts.items are a b r
            (told.written clean t (first.same_rows t holds) (accounts_exist t customer accounts.items are));
        fault = lines_fault_is_report_fault r told.fault;
        desk_unchanged = keeps_then g old mid new first told.desk_unchanged;
        unwritten = λ refusal is. absurd (lines_are_not_refused r refusal told.fault is);
      }

  -- the days are out of order
  pub days_refused : (store : Held S) (customer : Option ℕ) (from to : ℕ) (a : Option Text) → nat_lt to from ≡ true
      → StatementsPost g store store customer from to a a (Err (Refused BadText))
  days_refused store customer from to a late = record {
    written = λ clean t holds. refused_for_days t customer from to late;
    fault = tt;
    desk_unchanged = keeps_still g store;
    unwritten = λ refusal is. refl;
  }

  -- the accounts are refused
  pub accounts_refused : (old new : Held S) (customer : Option ℕ) (from to : ℕ) (order : from ≤ to) (refusal : Refusal) (a : Option Text)
      → ReadPost {E = CallFault} g old new (Ok (Err refusal)) (AreAccountsOfStatements customer) → StatementsPost g old new customer from to a a (Err (Refused refusal))
  accounts_refused old new customer from to order refusal a read = record {
    written = λ clean t holds. refused_for_customer t customer from to refusal (not_before to from order) (read.answered clean t holds);
    fault = tt;
    desk_unchanged = keeps_read g old new (Ok (Err refusal)) (AreAccountsOfStatements customer) read;
    unwritten = λ other is. refl;
  }

  -- reading them fails
  pub accounts_unread : (old new : Held S) (customer : Option ℕ) (from to : ℕ) (fault : CallFault) (a : Option Text)
      → ReadPost g old new (Err fault) (AreAccountsOfStatements customer) → StatementsPost g old new customer from to a a (Err (Desk (fault_of_call fault)))
  accounts_unread old new customer from to fault a read = record {
    written = λ clean t holds. (is_call_fault fault, inl (appends_none a));
    fault = is_call_fault fault;
    desk_unchanged = keeps_read g old new (Err fault) (AreAccountsOfStatements customer) read;
    unwritten = λ refusal is. refl;
  }
