-- The first lines of a reply's head.
use Rattle.std.specs.Prelude.{ℕ, ◌∷◌, ◌++◌, [], codes, decimal, unwrap_or}
use Rattle.brk_money.specs.Spelling.{Text}
use Rattle.brk_model_http.specs.Replies.{http_head_line}
use Rattle.http.specs.StatusCode.{code_digits, reason_phrase}

-- The status `code` in a head: its three digits, a space and its reason phrase (empty if none).
unfoldable pub status_text : ℕ → Text
status_text code = code_digits code ++ 32 ∷ unwrap_or (reason_phrase code) []

-- The first three lines of a reply's head, each ended by CR LF: the status line with the text
-- `status`, the content type `application/json`, and the content length `len` in bytes.
unfoldable pub first_head_lines : Text → ℕ → Text
first_head_lines status len =
    http_head_line (codes "HTTP/1.1 " ++ status) ++ http_head_line (codes "Content-Type: application/json")
    ++ http_head_line (codes "Content-Length: " ++ decimal len)
