-- The list that a short list stands for.
use Rattle.std.specs.Prelude.{ℕ, Bool, true, false, List, [], ◌∷◌, ◌++◌, take}
use Rattle.short_list.specs.declared.lists.Short.{Short}

-- Its values, in order.
abbrev pub listed : {T : Type 0} {N : ℕ} → Short T N → List T
listed s = take s.count s.items

-- A value more at the end, or the same list where there was no room.
abbrev pub pushed : {T : Type 0} → Bool → List T → T → List T
pushed true xs x = xs ++ (x ∷ [])
pushed false xs x = xs
