-- The first element of a list that passes a test. Assumes nothing: these are definitions.
use Rattle.std.specs.Prelude.{Bool, true, false, List, [], ◌∷◌}

-- what is found at the first element that passes the test; none where no element does
unfoldable pub pick : {A B : Type 0} → (A → Bool) → (A → B) → B → List A → B
pick test found none [] = none
pick test found none (x ∷ xs) = elim (test x) [ true ↦ found x | false ↦ pick test found none xs ]

-- whether an element passes the test
abbrev pub some : {A : Type 0} → (A → Bool) → List A → Bool
some test xs = pick test (λ x. true) false xs
