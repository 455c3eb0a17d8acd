-- Laws.
-- The machine judges a check byte by the register alone. That is document 01's test: the register over a part comes to
-- 0xC4 exactly where the part's last byte is the check byte of those before it.
use Rattle.std.specs.Prelude.{ℕ, zero, suc, ◌-◌, ◌≤◌, ◌<◌, ◌≡◌, refl, Bool, true, false, List, [], ◌∷◌, ◌++◌, eqb, length, get_or, take}
use Rattle.std.proofs.Common.{sym, ap, ◌∙◌, arith, take-suc, eq-eqb, ne_eqb, eqb-true}
use Rattle.std.proofs.Math.Seq.{take-length}
use Rattle.std.proofs.lemmas.Bool.{eqb-false}
use Rattle.checkbyte.specs.Register.{register_of, check_of, residue, Bytes}
use Rattle.checkbyte.specs.Residue.{residue_is}
use Rattle.checkbyte.specs.Differ.{residue_only}
use Rattle.frame.specs.Bits.{value, bytes}
use Rattle.frame.proofs.BitLaws.{checks_more}
use Rattle.frame.proofs.ByteLaws.{bytes_made}
use Rattle.frame.specs.Faults.{checks_out}

value_small : (b : Bool) → value b ≤ 1
value_small true = omega arith
value_small false = omega arith

-- every number of some bytes is a byte
byte_in : (bs : List ℕ) → Bytes bs → (i : ℕ) → get_or bs i 0 < 256
byte_in [] small i = omega arith
byte_in (b ∷ bs) small zero = small.0
byte_in (b ∷ bs) small (suc i) = byte_in bs small.1 i

-- bytes are all but their last, and the last
last_off : (bs : List ℕ) → 1 ≤ length bs → bs ≡ take (length bs - 1) bs ++ (get_or bs (length bs - 1) 0 ∷ [])
last_off bs h =
    let n : suc (length bs - 1) ≡ length bs = omega arith in
    sym (take-length bs) ∙ ap (λ (k : ℕ). take k bs) (sym n) ∙ take-suc bs (length bs - 1) 0 (omega arith)

-- the last byte c after the others: it is their check byte exactly where the register comes to 0xC4
last_judged : (bs : List ℕ) (c : ℕ) → c < 256 → eqb c (check_of bs) ≡ eqb (register_of (bs ++ (c ∷ []))) residue
last_judged bs c small = go (eqb c (check_of bs)) refl
  where
    go : (b : Bool) → eqb c (check_of bs) ≡ b → b ≡ eqb (register_of (bs ++ (c ∷ []))) residue
    go true e =
        let same : c ≡ check_of bs = eqb-true c (check_of bs) e in
        sym (eq-eqb (register_of (bs ++ (c ∷ []))) residue (rw same (residue_is bs)))
    go false e =
        sym (ne_eqb (register_of (bs ++ (c ∷ []))) residue (λ r. eqb-false c (check_of bs) e (residue_only bs c small r)))

-- Of the bytes that bits make, the register ends at 0xC4 exactly where the last is their check byte.
pub checks_residue : (bits : List Bool) → 1 ≤ length (bytes bits) → checks_out (bytes bits) ≡ eqb (register_of (bytes bits)) residue
checks_residue bits h =
    ap checks_out (last_off (bytes bits) h)
    ∙ checks_more (take (length (bytes bits) - 1) (bytes bits)) (get_or (bytes bits) (length (bytes bits) - 1) 0)
    ∙ last_judged (take (length (bytes bits) - 1) (bytes bits)) (get_or (bytes bits) (length (bytes bits) - 1) 0) (byte_in (bytes bits) (bytes_made bits) (length (bytes bits) - 1))
    ∙ ap (λ (bs : List ℕ). eqb (register_of bs) residue) (sym (last_off (bytes bits) h))
