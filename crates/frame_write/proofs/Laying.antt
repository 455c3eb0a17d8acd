-- Words that are laid after words: both together stand at the front of the lent memory.
use Rattle.std.specs.Prelude.{ℕ, suc, ◌+◌, ◌-◌, ◌<◌, ◌≡◌, List, [], ◌∷◌, ◌++◌, length, get_or, take, drop, set}
use Rattle.std.proofs.Common.{sym, ap, ◌∙◌, append_assoc, length-append, arith}
use Rattle.std.proofs.lemmas.List.{take_at, drop_at, take_all, drop_all, drop-drop, length-drop, append-nil}
use Rattle.std.proofs.Math.Seq.{drop-cons, set-append_seam}
use Rattle.frame_write.specs.Laid.{Fits, Lays}
use borrow.Rule.Slice.PartMut.{put_mid}

module _ {front old mid : List ℕ} {n : ℕ} (first : Lays front old mid n) where
  begun : drop n mid ≡ drop (length front) old
  begun = ap (drop n) first.laid ∙ drop_at front (drop (length front) old) n (sym first.counted)

  pub long : length mid ≡ length front + length (drop (length front) old)
  long = ap length first.laid ∙ length-append front (drop (length front) old)

  -- what is lent after the first words is as it was
  rest : take (length mid - n) (drop n mid) ≡ drop (length front) old
  rest = rw begun (take_all (length mid - n) (drop (length front) old) (omega (arith, first.counted, long)))

  -- one word more, stored at its place
  pub one_more : (a : ℕ) → length front < length old → Lays (front ++ (a ∷ [])) old (set mid n a) (n + 1)
  one_more a h =
      let more : length (front ++ (a ∷ [])) ≡ suc (length front) = omega (arith, length-append front (a ∷ [])) in
      record {
        laid =
            ap (λ (i : ℕ). set mid i a) first.counted
            ∙ ap (λ (xs : List ℕ). set xs (length front) a) (first.laid ∙ ap (λ (xs : List ℕ). front ++ xs) (drop-cons old (length front) 0 h))
            ∙ set-append_seam front (get_or old (length front) 0) (drop (suc (length front)) old) a
            ∙ sym (append_assoc front (a ∷ []) (drop (suc (length front)) old))
            ∙ ap (λ (i : ℕ). (front ++ (a ∷ [])) ++ drop i old) (sym more);
        counted = omega (arith, first.counted, more);
      }

  module _ (ws : List ℕ) (enough : Fits (front ++ ws) old) where
    pub space_after : Fits ws (take (length mid - n) (drop n mid))
    space_after = rw rest (omega (arith, length-drop (length front) old, length-append front ws))

    pub laid_after : {part : List ℕ} {k : ℕ} → Lays ws (take (length mid - n) (drop n mid)) part k → Lays (front ++ ws) old (put_mid n (length mid - n) mid part) (n + k)
    laid_after {part} {k} second =
        record {
          laid =
              ap (λ (xs : List ℕ). xs ++ (part ++ drop (length mid - n) (drop n mid))) (ap (take n) first.laid ∙ take_at front (drop (length front) old) n (sym first.counted))
              ∙ ap (λ (xs : List ℕ). front ++ (part ++ xs)) (drop_all (length mid - n) (drop n mid) (rw begun (omega (arith, first.counted, long))))
              ∙ ap (λ (xs : List ℕ). front ++ xs) (append-nil part ∙ second.laid ∙ ap (λ (xs : List ℕ). ws ++ drop (length ws) xs) rest ∙ ap (λ (xs : List ℕ). ws ++ xs) (drop-drop (length ws) (length front) old))
              ∙ sym (append_assoc front ws (drop (length front + length ws) old))
              ∙ ap (λ (i : ℕ). (front ++ ws) ++ drop i old) (sym (length-append front ws));
          counted = omega (arith, first.counted, second.counted, length-append front ws);
        }
