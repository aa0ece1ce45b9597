-- The first lines of a reply's head, as one text.
use Rattle.std.proofs.Common.{◌≡◌, ℕ, [], ◌∷◌, ◌++◌, codes, append_assoc, refl}
use Rattle.std.specs.Prelude.{decimal, unwrap_or}
use Rattle.http.specs.StatusCode.{code_digits, reason_phrase}
use Rattle.brk_money.specs.Spelling.{Text}
use Rattle.brk_http_engine.specs.Lines.{first_head_lines, status_text}

pub head_text : (digits phrase : Text) (len : ℕ)
    → codes "HTTP/1.1 " ++ (digits ++ 32 ∷ (phrase ++ (13 ∷ 10 ∷ codes "Content-Type: application/json" ++ (13 ∷ 10 ∷ codes "Content-Length: " ++ (decimal len ++ 13 ∷ 10 ∷ [])))))
    ≡ first_head_lines (digits ++ 32 ∷ phrase) len
unfolding first_head_lines
head_text digits phrase len = simp append_assoc

pub digits_and_phrase : (code : ℕ) (digits phrase : Text) → digits ≡ code_digits code → phrase ≡ unwrap_or (reason_phrase code) [] → digits ++ 32 ∷ phrase ≡ status_text code
unfolding status_text
digits_and_phrase code digits phrase d p = rw (d, p) refl
