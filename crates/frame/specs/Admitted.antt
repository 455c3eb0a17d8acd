-- Laws.
-- Which messages the writer takes, in words: the rule of 37 turned round.
use Rattle.std.specs.Prelude.{ℕ, ◌+◌, ◌≤◌, ◌≡◌, refl, false, ◌||◌, List, ◌↔◌, eqb, ltb, length}
use Rattle.std.proofs.Common.{arith, ltb-false, ne_eqb, le-ltb}
use Rattle.std.proofs.lemmas.Bool.{eqb-false}
use Rattle.laws.specs.Tests.{neither}
use Rattle.checkbyte.specs.Register.{with_check}
use Rattle.frame.specs.declared.Response.{Response}
use Rattle.frame.specs.declared.Response.TheVariants.{Without, Plain, Checked}
use Rattle.frame.specs.Faults.{most_bytes}
use Rattle.frame.specs.Writing.{response_sent, empty_response, bad_message}
use Rattle.frame.specs.WriteStated.{SomeResponse, Admitted}

some : (n : ℕ) → eqb n 0 ≡ false → 1 ≤ n
some n e = let h : ¬ (n ≡ 0) = eqb-false n 0 e in omega arith

some_false : (n : ℕ) → 1 ≤ n → eqb n 0 ≡ false
some_false n h = ne_eqb n 0 (λ e. omega arith)

response_test : (kind : Response) (rs : List ℕ) → (empty_response kind rs ≡ false) ↔ SomeResponse kind rs
response_test Without rs = (λ e. tt, λ h. refl)
response_test Plain rs = (some (length rs), some_false (length rs))
response_test Checked rs = (some (length rs), some_false (length rs))

-- Exactly those messages pass the test of 37.
pub admitted : (main : List ℕ) (kind : Response) (rs : List ℕ) → (bad_message main kind rs ≡ false) ↔ Admitted main kind rs
unfolding bad_message
admitted main kind rs = (there, back)
  where
    total : ℕ
    total = length (with_check main) + length (response_sent kind rs)

    there : (eqb (length main) 0 || (empty_response kind rs || ltb most_bytes total)) ≡ false → Admitted main kind rs
    there e =
        let a = neither (eqb (length main) 0) (empty_response kind rs || ltb most_bytes total) e in
        let b = neither (empty_response kind rs) (ltb most_bytes total) a.1 in
        record {
          some_main = some (length main) a.0;
          some_response = (response_test kind rs).0 b.0;
          at_most = ltb-false most_bytes total b.1;
        }

    back : Admitted main kind rs → (eqb (length main) 0 || (empty_response kind rs || ltb most_bytes total)) ≡ false
    back a = rw (some_false (length main) a.some_main, (response_test kind rs).1 a.some_response, le-ltb most_bytes total a.at_most)
