-- The whole fails with the fault of the part that fails.
use Rattle.std.proofs.Common.{◌≡◌, ℕ, ℤ, List, [], ◌∷◌, ◌++◌, Option, Result, Ok, Err, IfErr, refl, sym, subst}
use Rattle.std.specs.Prelude.{IsErrAnd}
use Rattle.std.specs.Io.KnownBytes.{Appends}
use Rattle.brk_money.specs.Spelling.{Text}
use Rattle.brk_money.specs.declared.fault.CallFault.TheVariants as call
use Rattle.brk_model.specs.Statement.{text_of_lines}
use Rattle.brk_model.specs.Tables.{Tables}
use Rattle.brk_report_lines.specs.Written.{FailsWithinFirstLines, FailsWithinLines, WritesLines}
use Rattle.brk_io.specs.declared.report_fault.LinesFault.{LinesFault}
use Rattle.brk_io.specs.declared.report_fault.LinesFault.TheVariants.{Desk}
use Rattle.brk_report.specs.CashWalk.{WritesCashLines, opening_and_cash_lines}
use Rattle.brk_report.specs.StatementParts.{WritesCashAndClosingLines, cash_and_closing_lines}
use Rattle.brk_report.specs.declared.statements.visitors.CashProgress.{CashProgress}
use Rattle.brk_report_lines.proofs.Composed.{appends_none, breaks_before, breaks_behind, then_all}

-- the error is handed on
pub on_err : {Y : Type 0} (P : LinesFault → Type 0) (outer : Result Y LinesFault) (e : LinesFault) → IsErrAnd outer (λ out. out ≡ e) → P e → IfErr outer P
on_err P (Err out) e is h = subst P (sym is) h
on_err P (Ok y) e is h = absurd is

pub breaks_as : {Y : Type 0} (lines : List Text) (a b : Option Text) (outer : Result Y LinesFault) (e : LinesFault) → IsErrAnd outer (λ out. out ≡ e)
    → FailsWithinLines lines a b e → WritesLines lines a b outer
breaks_as lines a b (Err out) e is h = subst (FailsWithinLines lines a b) (sym is) h
breaks_as lines a b (Ok y) e is h = absurd is

-- nothing is written before the line
pub nothing_yet : (line : Text) (a : Option Text) (e : LinesFault) → e ≡ Desk call.Store → FailsWithinLines (line ∷ []) a a e
nothing_yet line a e is = subst (FailsWithinLines (line ∷ []) a a) (sym is) ([], line, [], refl, appends_none a)

-- ---- one line before others

pub line_first : (line : Text) (lines : List Text) (a b : Option Text) (e : LinesFault) → FailsWithinLines (line ∷ []) a b e → FailsWithinLines (line ∷ lines) a b e
line_first line lines a b e h = breaks_before (line ∷ []) lines a b e h

pub line_then : (line : Text) (lines : List Text) (a b c : Option Text) (e : LinesFault) → Appends a b (text_of_lines (line ∷ []))
    → FailsWithinLines lines b c e → FailsWithinLines (line ∷ lines) a c e
line_then line lines a b c e h k = breaks_behind (line ∷ []) lines a b c e h k

pub behind : {R : Type 0} (xs ys : List Text) (a b c : Option Text) (r : Result R LinesFault) → Appends a b (text_of_lines xs) → WritesLines ys b c r → WritesLines (xs ++ ys) a c r
behind xs ys a b c (Ok u) h k = then_all xs ys a b c h k
behind xs ys a b c (Err e) h k = breaks_behind xs ys a b c e h k

pub days_broke : (t : Tables) (account from to : ℕ) (opening : ℤ) (a b : Option Text) (outer : Result ℕ LinesFault) (e : LinesFault)
    → IsErrAnd outer (λ out. out ≡ e) → FailsWithinLines (cash_and_closing_lines t account from to opening) a b e
    → WritesCashAndClosingLines t account from to opening a b outer
days_broke t account from to opening a b (Err out) e is h = subst (FailsWithinLines (cash_and_closing_lines t account from to opening) a b) (sym is) h
days_broke t account from to opening a b (Ok n) e is h = absurd is

pub opening_broke : (t : Tables) (account from to : ℕ) (opening : ℤ) (a b : Option Text) (outer : Result CashProgress LinesFault) (e : LinesFault)
    → IsErrAnd outer (λ out. out ≡ e) → FailsWithinFirstLines (opening_and_cash_lines t account from to opening) a b e
    → WritesCashLines t account from to opening a b outer
opening_broke t account from to opening a b (Err out) e is h = subst (FailsWithinFirstLines (opening_and_cash_lines t account from to opening) a b) (sym is) h
opening_broke t account from to opening a b (Ok n) e is h = absurd is
