-- A test over what stands in each of a list.
use Rattle.std.proofs.Common.{◌≡◌, Bool, List, [], ◌∷◌, map, refl}
use Rattle.std.specs.List.{list_any}

pub any_mapped : {X Y : Type 0} (p : X → Bool) (f : Y → X) (ys : List Y) → list_any p (map f ys) ≡ list_any (λ y. p (f y)) ys
any_mapped p f [] = refl
any_mapped p f (y ∷ ys) = rw (any_mapped p f ys) refl
