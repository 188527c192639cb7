-- Which of the two a choice is.
use Rattle.std.proofs.Common.{◌≡◌, refl, ap}
use Rattle.chance.specs.Choose.{choose}

pub chosen : {P A : Type 0} (d : Dec P) (f : P → A) (y v : A) → P → ((h : P) → f h ≡ v) → choose d f y ≡ v
unfolding choose
chosen (yes h) f y v p e = e h
chosen (no n) f y v p e = absurd (n p)

-- where there is but one proof
pub chosen_one : {P A : Type 0} (d : Dec P) (f : P → A) (y : A) → IsProp P → (h : P) → choose d f y ≡ f h
chosen_one d f y one h = chosen d f y (f h) h (λ k. ap f (one k h))

pub not_chosen : {P A : Type 0} (d : Dec P) (f : P → A) (y : A) → (P → ⊥) → choose d f y ≡ y
unfolding choose
not_chosen (yes h) f y n = absurd (n h)
not_chosen (no _) f y n = refl
