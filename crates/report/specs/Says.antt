-- 01, "The plant file and the listing": "Line one: n, T, number covered. Then a line a group by ascending leader, members ascending; then the alone; then the choke set."
-- What the listing of any lists says, in these words. The definitions of Text.antt that list gateways and count them are no part of it. proofs/Says.antt proves it.
use Rattle.std.specs.Prelude.{ℕ, ◌+◌, ◌≡◌, List, [], ◌∷◌, ◌++◌, length}
use Rattle.packing.specs.Lists.{Lists}
use Rattle.packing.specs.Plant.{at}
use Rattle.report.specs.Text.{field, line, word_gateways, word_limit, word_covered, word_lead, word_members, word_alone, word_choke, listing}

-- "a line a group": for each leader of a list its number and its members
unfoldable pub group_lines : List ℕ → (ℕ → List ℕ) → List ℕ
group_lines [] members = []
group_lines (u ∷ leaders) members = (field word_lead u ++ line word_members (members u)) ++ group_lines leaders members

-- the text is the listing of n gateways with limit t, a leader list and choke bytes
pub record ListingOf (n t : ℕ) (leaders choke text : List ℕ) : Type 0 where
  pub covered : ℕ
  pub leading : List ℕ
  pub members : ℕ → List ℕ
  pub alone : List ℕ
  pub chokes : List ℕ
  -- the number covered: all but those alone
  pub counted : covered + length alone ≡ n
  -- a leader has its own number, a member its leader's, one alone 65535; a choke byte is 1
  pub leads : Lists n (λ u. at leaders u ≡ u) leading
  pub led : (u : ℕ) → Lists n (λ w. (at leaders w ≡ u) × (w ≡ u → ⊥)) (members u)
  pub unled : Lists n (λ v. at leaders v ≡ 65535) alone
  pub choked : Lists n (λ v. at choke v ≡ 1) chokes
  pub is :
      text
      ≡ (field word_gateways n ++ field word_limit t ++ line word_covered (covered ∷ [])) ++ group_lines leading members ++ line word_alone alone ++ line word_choke chokes

unfoldable pub ListingSays : Type 0
ListingSays = (n t : ℕ) (leaders choke : List ℕ) → ListingOf n t leaders choke (listing n t leaders choke)
