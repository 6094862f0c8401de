-- A root is a cap of one.
use Rattle.std.proofs.Common.{◌≡◌, ◌↔◌, ℕ, ◌*◌, ◌/◌, ◌^◌, ◌<◌, Bool, List, [], ◌∷◌, get_or, sym, ◌∙◌, ap, arith}
use Rattle.std.specs.Prelude.{IsTrue}
use Rattle.std.proofs.Math.Nat.{div-eq_of_lt}
use Rattle.std.proofs.Math.Pow.{split}
use Rattle.std.proofs.lemmas.Nat.{pow_pos}
use native.Mathlib.Nat.{mod-lt, zero-mul}
use Rattle.transcripts.specs.MerkleTrees.{DigestLeads, DigestLeadsToCap}

-- an index of which nothing is left after k halvings is below 2 ^ k
below_power : (n k : ℕ) → n / 2 ^ k ≡ 0 → n < 2 ^ k
below_power n k none =
    let parts = split n k in
    let rest = mod-lt n (pow_pos k) in
    let product : n / 2 ^ k * 2 ^ k ≡ 0 = ap (λ (q : ℕ). q * 2 ^ k) none ∙ zero-mul (2 ^ k) in
    omega (arith, parts, rest, product)

-- a path leads to a root exactly where it leads to the cap of that root alone
pub leads_as_cap : (same : Bool) (hash : List ℕ → List ℕ) (depth : ℕ) (root : List ℕ) (index : ℕ) (digest : List ℕ) (path : List (List ℕ))
    → IsTrue same ↔ DigestLeadsToCap hash depth (root ∷ []) index digest path → IsTrue same ↔ DigestLeads hash depth root index digest path
leads_as_cap same hash depth root index digest path says = (
  (λ yes.
      let leads = says.0 yes in
      let none : index / 2 ^ depth ≡ 0 = let within = leads.within in omega (arith, within) in
      record {
        within = below_power index depth none;
        whole = leads.whole;
        ends = leads.ends ∙ ap (λ (p : ℕ). get_or (root ∷ []) p []) none;
      }),
  (λ leads.
      let none : index / 2 ^ depth ≡ 0 = div-eq_of_lt leads.within in
      says.1
      record {
        within = omega (arith, none);
        whole = leads.whole;
        ends = leads.ends ∙ ap (λ (p : ℕ). get_or (root ∷ []) p []) (sym none);
      }),
)
