-- The frames that a log has room for.
use Rattle.std.proofs.Common.{◌≡◌, ◌≢◌, ℕ, suc, zero, ◌+◌, ◌-◌, ◌*◌, ◌/◌, ◌<◌, ◌≤◌, List, ap, arith, mul-le-mul_right, refl, sym}
use Rattle.std.proofs.Math.Nat.{le-div_iff_mul-le}
use Rattle.sqlite_wal.specs.Format.{stored_sum}
use Rattle.sqlite_wal.specs.Recovery.{frame, frame_at, frames_len, sum_before}

pub frame_within : (i n d : ℕ) → 0 < d → 32 ≤ n → i < (n - 32) / d → 32 + (i + 1) * d ≤ n
frame_within i n d some long below =
    let h : i + 1 ≤ (n - 32) / d = omega (below, arith) in
    let k : (i + 1) * d ≤ n - 32 = (le-div_iff_mul-le {k = d} {x = i + 1} {y = n - 32} some).0 h in
    omega (k, long, arith)

pub frame_counted : (i n d : ℕ) → 0 < d → 32 + (i + 1) * d ≤ n → i < (n - 32) / d
frame_counted i n d some within =
    let k : (i + 1) * d ≤ n - 32 = omega (within, arith) in
    let h : i + 1 ≤ (n - 32) / d = (le-div_iff_mul-le {k = d} {x = i + 1} {y = n - 32} some).1 k in
    omega (h, arith)

-- A log that has a frame whole has each earlier one whole.
pub earlier_frame : (page_size i j n : ℕ) → j ≤ i → frame_at page_size i + (24 + page_size) ≤ n → frame_at page_size j + (24 + page_size) ≤ n
unfolding frames_len
earlier_frame page_size i j n order within = omega (arith, mul-le-mul_right (24 + page_size) order)

-- The sum from which a frame but the first goes on is stored in the frame before.
pub sum_later : (page_size : ℕ) (log : List ℕ) (i : ℕ) → i ≢ 0 → sum_before page_size log i ≡ stored_sum (frame page_size log (i - 1)) 16
sum_later page_size log zero some = absurd (some refl)
sum_later page_size log (suc i) some =
    let before : suc i - 1 ≡ i = omega arith in
    ap (λ (x : ℕ). stored_sum (frame page_size log x) 16) (sym before)
