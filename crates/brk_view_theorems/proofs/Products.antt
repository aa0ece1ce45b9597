-- Products of a signed number and a price, and sums of them.
use Rattle.std.proofs.Common.{◌≡◌, ℕ, zero, suc, ℤ, pos, negsuc, ◌+ℤ◌, ◌-ℤ◌, ◌*ℤ◌, neg_ℤ, List, [], ◌∷◌, refl, sym, ap, ◌∙◌, arith}
use Rattle.std.proofs.lemmas.Int.{ints}
use lib.IntN.{*ℤ_comm, *ℤ-zero, suc_ℤ-*ℤ, *ℤ-negsuc, zero-*ℤ, +ℤ_invr, neg_ℤ-+ℤ}
use Rattle.brk_model.specs.Lists.{total_by}

-- ---- products

times_more : (m : ℤ) (n : ℕ) → m *ℤ pos (suc n) ≡ m *ℤ pos n +ℤ m
times_more m n = *ℤ_comm m (pos (suc n)) ∙ suc_ℤ-*ℤ (pos n) m ∙ ap (λ z. z +ℤ m) (*ℤ_comm (pos n) m)

pub times_one : (z : ℤ) → z *ℤ pos 1 ≡ z
times_one z = times_more z 0 ∙ ap (λ y. y +ℤ z) (*ℤ-zero z) ∙ none z
  where
    none : (z : ℤ) → pos 0 +ℤ z ≡ z
    none z = omega (arith, ints)

pub times_sum : (a b : ℤ) (n : ℕ) → (a +ℤ b) *ℤ pos n ≡ a *ℤ pos n +ℤ b *ℤ pos n
times_sum a b zero = *ℤ-zero (a +ℤ b) ∙ sym ((λ i. *ℤ-zero a i +ℤ *ℤ-zero b i))
times_sum a b (suc n) =
    times_more (a +ℤ b) n ∙ ap (λ z. z +ℤ (a +ℤ b)) (times_sum a b n) ∙ swap (a *ℤ pos n) (b *ℤ pos n)
    ∙ sym (λ i. times_more a n i +ℤ times_more b n i)
  where
    swap : (x y : ℤ) → (x +ℤ y) +ℤ (a +ℤ b) ≡ (x +ℤ a) +ℤ (y +ℤ b)
    swap x y = omega (arith, ints)

sum_times : (a b c : ℤ) → (a +ℤ b) *ℤ c ≡ a *ℤ c +ℤ b *ℤ c
sum_times a b (pos n) = times_sum a b n
sum_times a b (negsuc n) =
    *ℤ-negsuc (a +ℤ b) n ∙ ap neg_ℤ (times_sum a b (suc n)) ∙ neg_ℤ-+ℤ (a *ℤ pos (suc n)) (b *ℤ pos (suc n))
    ∙ sym (λ i. *ℤ-negsuc a n i +ℤ *ℤ-negsuc b n i)

pub neg_times : (a c : ℤ) → neg_ℤ a *ℤ c ≡ neg_ℤ (a *ℤ c)
neg_times a c =
    let none : (a +ℤ neg_ℤ a) *ℤ c ≡ pos 0 = ap (λ z. z *ℤ c) (+ℤ_invr a) ∙ zero-*ℤ c in
    let both : (a +ℤ neg_ℤ a) *ℤ c ≡ a *ℤ c +ℤ neg_ℤ a *ℤ c = sum_times a (neg_ℤ a) c in
    opposite (a *ℤ c) (neg_ℤ a *ℤ c) (sym both ∙ none)
  where
    opposite : (x y : ℤ) → x +ℤ y ≡ pos 0 → y ≡ neg_ℤ x
    opposite x y e = omega (arith, ints, e)

pub less_times : (a b c : ℤ) → (a -ℤ b) *ℤ c ≡ a *ℤ c -ℤ b *ℤ c
less_times a b c = sum_times a (neg_ℤ b) c ∙ ap (λ z. a *ℤ c +ℤ z) (neg_times b c)

pub times_less : (c a b : ℤ) → c *ℤ (a -ℤ b) ≡ c *ℤ a -ℤ c *ℤ b
times_less c a b = *ℤ_comm c (a -ℤ b) ∙ less_times a b c ∙ (λ i. *ℤ_comm a c i -ℤ *ℤ_comm b c i)

-- ---- sums

pub total_sum : {X : Type 0} (f g : X → ℤ) (xs : List X) → total_by (λ x. f x +ℤ g x) xs ≡ total_by f xs +ℤ total_by g xs
unfolding total_by
total_sum f g [] = refl
total_sum f g (x ∷ xs) = ap (λ z. f x +ℤ g x +ℤ z) (total_sum f g xs) ∙ swap (f x) (g x) (total_by f xs) (total_by g xs)
  where
    swap : (a b c d : ℤ) → (a +ℤ b) +ℤ (c +ℤ d) ≡ (a +ℤ c) +ℤ (b +ℤ d)
    swap a b c d = omega (arith, ints)

pub total_less : {X : Type 0} (f g : X → ℤ) (xs : List X) → total_by (λ x. f x -ℤ g x) xs ≡ total_by f xs -ℤ total_by g xs
unfolding total_by
total_less f g [] = refl
total_less f g (x ∷ xs) = ap (λ z. (f x -ℤ g x) +ℤ z) (total_less f g xs) ∙ swap (f x) (g x) (total_by f xs) (total_by g xs)
  where
    swap : (a b c d : ℤ) → (a -ℤ b) +ℤ (c -ℤ d) ≡ (a +ℤ c) -ℤ (b +ℤ d)
    swap a b c d = omega (arith, ints)

pub total_times : {X : Type 0} (f : X → ℤ) (n : ℕ) (xs : List X) → total_by (λ x. f x *ℤ pos n) xs ≡ total_by f xs *ℤ pos n
unfolding total_by
total_times f n [] = sym (zero-*ℤ (pos n))
total_times f n (x ∷ xs) = ap (λ z. f x *ℤ pos n +ℤ z) (total_times f n xs) ∙ sym (times_sum (f x) (total_by f xs) n)

pub total_none : {X : Type 0} (xs : List X) → total_by (λ x. pos 0) xs ≡ pos 0
unfolding total_by
total_none [] = refl
total_none (x ∷ xs) = ap (λ z. pos 0 +ℤ z) (total_none xs)

pub no_more : (z : ℤ) → pos 0 +ℤ z ≡ z
no_more z = omega (arith, ints)
