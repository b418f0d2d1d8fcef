-- The tests of terms, prices and figures as orders of numbers.
use Rattle.std.specs.Prelude.{◌≡◌, ℕ, ◌*◌, ◌≤◌, true}
use Rattle.std.proofs.Common.{arith}
use Rattle.std.proofs.lemmas.Bool.Decides.{nat_tests}
use Rattle.programme.specs.declared.terms.Terms.{Terms}
use Rattle.programme.specs.declared.figures.Figures.{Figures}
use Rattle.programme.specs.Bounds.{lawful_terms, most, quarters, settleable}

pub record InRanges (t : Terms) : Type 0 where
  pub reduction_high : t.reduction_kw ≤ 200000
  pub hours_low : 2 ≤ t.hours
  pub hours_high : t.hours ≤ 6

pub in_ranges : (t : Terms) → lawful_terms t ≡ true → InRanges t
in_ranges t h = record { reduction_high = grind (arith, nat_tests); hours_low = grind (arith, nat_tests); hours_high = grind (arith, nat_tests) }

pub record Settled (f : Figures) (t : Terms) (price baseline load : ℕ) : Type 0 where
  pub lawful : lawful_terms t ≡ true
  pub terms : InRanges t
  pub price_most : price ≤ 1000
  pub baseline_most : baseline ≤ f.baseline_days * most f.fold (quarters t)
  pub load_most : load ≤ most f.fold (quarters t)

pub settled : (f : Figures) (t : Terms) (price baseline load : ℕ) → settleable f t price baseline load ≡ true → Settled f t price baseline load
settled f t price baseline load h =
    let lawful : lawful_terms t ≡ true = grind (arith, nat_tests) in
    record {
      lawful = lawful;
      terms = in_ranges t lawful;
      price_most = grind (arith, nat_tests);
      baseline_most = grind (arith, nat_tests);
      load_most = grind (arith, nat_tests);
    }
