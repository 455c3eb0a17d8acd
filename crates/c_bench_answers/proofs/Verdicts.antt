-- Lists of which one has what f gives at each place of the other.
use Rattle.std.proofs.Common.{◌≡◌, ℕ, ◌<◌, ◌∙◌, List, length, get_or, map, sym, arith}
use Rattle.std.proofs.lemmas.List.{same_lists, length-map, get_or-map}

-- The one is the other, mapped by f.
pub mapped : {X Y : Type 0} (f : X → Y) (xs : List X) (ys : List Y) (d : X) → length xs ≡ length ys
    → ((i : ℕ) (e : Y) → i < length ys → get_or ys i e ≡ f (get_or xs i d)) → ys ≡ map f xs
mapped f xs ys d n p =
    same_lists ys (map f xs) (omega (arith, n, length-map xs f))
    (λ i e h. p i e h ∙ sym (get_or-map f xs i d e (omega (arith, n, h))))
