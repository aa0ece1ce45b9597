-- Values that one function makes of equal parts are equal.
use Rattle.std.proofs.Common.{◌≡◌}

-- values that one function makes of two equal parts are equal
pub same_of_two : {A B Z : Type 0} (f : A → B → Z) (x1 y1 : A) (x2 y2 : B)
    → x1 ≡ y1 → x2 ≡ y2 → f x1 x2 ≡ f y1 y2
same_of_two f x1 y1 x2 y2 e1 e2 = cc

-- values that one function makes of three equal parts are equal
pub same_of_three : {A B C Z : Type 0} (f : A → B → C → Z) (x1 y1 : A) (x2 y2 : B) (x3 y3 : C)
    → x1 ≡ y1 → x2 ≡ y2 → x3 ≡ y3 → f x1 x2 x3 ≡ f y1 y2 y3
same_of_three f x1 y1 x2 y2 x3 y3 e1 e2 e3 = cc

-- values that one function makes of four equal parts are equal
pub same_of_four : {A B C D Z : Type 0} (f : A → B → C → D → Z) (x1 y1 : A) (x2 y2 : B) (x3 y3 : C) (x4 y4 : D)
    → x1 ≡ y1 → x2 ≡ y2 → x3 ≡ y3 → x4 ≡ y4 → f x1 x2 x3 x4 ≡ f y1 y2 y3 y4
same_of_four f x1 y1 x2 y2 x3 y3 x4 y4 e1 e2 e3 e4 = cc

-- values that one function makes of five equal parts are equal
pub same_of_five : {A B C D E Z : Type 0} (f : A → B → C → D → E → Z) (x1 y1 : A) (x2 y2 : B) (x3 y3 : C) (x4 y4 : D) (x5 y5 : E)
    → x1 ≡ y1 → x2 ≡ y2 → x3 ≡ y3 → x4 ≡ y4 → x5 ≡ y5 → f x1 x2 x3 x4 x5 ≡ f y1 y2 y3 y4 y5
same_of_five f x1 y1 x2 y2 x3 y3 x4 y4 x5 y5 e1 e2 e3 e4 e5 = cc

-- values that one function makes of six equal parts are equal
pub same_of_six : {A B C D E F Z : Type 0} (f : A → B → C → D → E → F → Z) (x1 y1 : A) (x2 y2 : B) (x3 y3 : C) (x4 y4 : D) (x5 y5 : E) (x6 y6 : F)
    → x1 ≡ y1 → x2 ≡ y2 → x3 ≡ y3 → x4 ≡ y4 → x5 ≡ y5 → x6 ≡ y6 → f x1 x2 x3 x4 x5 x6 ≡ f y1 y2 y3 y4 y5 y6
same_of_six f x1 y1 x2 y2 x3 y3 x4 y4 x5 y5 x6 y6 e1 e2 e3 e4 e5 e6 = cc
