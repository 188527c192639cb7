-- The two ways between sides and places undo each other.
use Rattle.std.proofs.Common.{◌≡◌, ℕ, List, Some, None, Option, sym, refl, ap, ◌∙◌, arith}
use Rattle.endings.proofs.HomePlaces.{below, apart}
use Rattle.places.specs.Asked.{CountOf, PlaceOf, SideAt}
use Rattle.places.specs.Inverse.{Inverse}

one_count : (n : ℕ) (r q : Option ℕ) → CountOf n r → CountOf n q → r ≡ q
one_count n (Some a) (Some b) h k = ap Some (h.1 ∙ sym k.1)
one_count n (Some a) None h k = absurd (k h.0)
one_count n None (Some b) h k = absurd (h k.0)
one_count n None None h k = refl

one_place : (n : ℕ) (side : List ℕ) (r q : Option ℕ) → PlaceOf n side r → PlaceOf n side q → r ≡ q
one_place n side (Some a) (Some b) h k = ap Some (h.2 ∙ sym k.2)
one_place n side (Some a) None h k = absurd (k h.0 h.1)
one_place n side None (Some b) h k = absurd (h k.0 k.1)
one_place n side None None h k = refl

one_side : (n i : ℕ) (r q : Option (List ℕ)) → SideAt n i r → SideAt n i q → r ≡ q
one_side n i (Some a) (Some b) h k = ap Some (apart n a b h.2 k.2 (sym h.3 ∙ k.3))
one_side n i (Some a) None h k = absurd (k h.0 h.1)
one_side n i None (Some b) h k = absurd (h k.0 k.1)
one_side n i None None h k = refl

stands : (n i : ℕ) (side : List ℕ) → PlaceOf n side (Some i) → SideAt n i (Some side)
stands n i side h = (h.0, omega (arith, h.2, below n side h.1), h.1, h.2)

pub inverse : Inverse
inverse =
    record {
      back = λ n i side r h k. one_side n i r (Some side) k (stands n i side h);
      forth = λ n i side r h k. one_place n side r (Some i) k (h.0, h.2, h.3);
      one_count = one_count;
      one_place = one_place;
      one_side = one_side;
    }
