-- What holds of any call, on any record that it may be handed, sound or not, however it was made. proofs/Records.antt proves it.
use Rattle.std.specs.Prelude.{ℕ, ◌+◌, ◌*◌, ◌<◌, ◌≡◌, Bool, true, List, drop}
use Rattle.packing.specs.Lists.{list_of, written}
use Rattle.packing.specs.Plant.{at, linked}
use Rattle.packing.specs.Refusals.{by_number}
use Rattle.packing.specs.Grouping.{Grouping, covered}
use Rattle.packing.specs.Pairs.{EarlierLeads, SameGroups}
use Rattle.packing.specs.Holders.{held}
use Rattle.stars.specs.Stars.{leader_list_by, place_of, not_later, leader_list}
use Rattle.search.specs.ChokeSet.{choke_byte}
use Rattle.planner.specs.State.{State, state_of, with_order, links_of, limit_of}
use Rattle.planner.specs.declared.Way.{Way}
use Rattle.planner.specs.Calls.{open_call, Call, link, order, set_limit, place_by, read, call_refusal, call, read_leaders, read_choke}
use Rattle.planner.specs.Turns.{SoundFacts}

-- Open (n, T, lists): "order 0, 1, .., no holder, m = 0, k = 0", and limits "all T after open" (02, change 8), entry by entry, and nothing past n
pub record Opened (n t : ℕ) (ls os hs ts : List ℕ) (s : State) : Type 0 where
  pub gateways : s.small.n ≡ n
  pub limit : s.small.t ≡ t
  pub unlinked : s.small.m ≡ 0
  pub unplaced : s.small.k ≡ 0
  pub links : s.links ≡ ls
  pub order : (i : ℕ) → i < n → at s.order i ≡ i
  pub order_past : drop n s.order ≡ drop n os
  pub holders : (v : ℕ) → v < n → at s.holders v ≡ 65535
  pub holders_past : drop n s.holders ≡ drop n hs
  pub limits : (v : ℕ) → v < n → at s.limits v ≡ t
  pub limits_past : drop n s.limits ≡ drop n ts

unfoldable pub OpenGives : Type 0
OpenGives = (n t : ℕ) (ls os hs ts : List ℕ) → (open_call n t ls os hs ts).refusal ≡ 0 → Opened n t ls os hs ts (open_call n t ls os hs ts).state

-- "a refused open, which was handed none, returns n = 0, T = 2, m = 0, k = 0", and the lists stay
unfoldable pub OpenRefused : Type 0
OpenRefused =
    (n t : ℕ) (ls os hs ts : List ℕ) → ((open_call n t ls os hs ts).refusal ≡ 0 → ⊥)
    → (open_call n t ls os hs ts).state ≡ state_of (record { n = 0; t = 2; m = 0; k = 0 }) ls os hs ts

-- "Link (a, b): appended": behind the m links that are there, and m rises by one
pub record AfterLink (s : State) (a b : ℕ) (after : State) : Type 0 where
  pub gateways : after.small.n ≡ s.small.n
  pub limit : after.small.t ≡ s.small.t
  pub one_more : after.small.m ≡ s.small.m + 1
  pub placed : after.small.k ≡ s.small.k
  pub before : (i : ℕ) → i < 2 * s.small.m → at after.links i ≡ at s.links i
  pub first : at after.links (2 * s.small.m) ≡ a
  pub second : at after.links (2 * s.small.m + 1) ≡ b
  pub order : after.order ≡ s.order
  pub holders : after.holders ≡ s.holders
  pub limits : after.limits ≡ s.limits

unfoldable pub LinkGives : Type 0
LinkGives = (s : State) (a b : ℕ) → (call s (link a b)).refusal ≡ 0 → AfterLink s a b (call s (link a b)).state

-- "Order (n numbers): replaces the order"
pub record AfterOrder (s : State) (numbers : List ℕ) (after : State) : Type 0 where
  pub small : after.small ≡ s.small
  pub links : after.links ≡ s.links
  pub order : (i : ℕ) → i < s.small.n → at after.order i ≡ at numbers i
  pub holders : after.holders ≡ s.holders
  pub limits : after.limits ≡ s.limits

unfoldable pub OrderGives : Type 0
OrderGives = (s : State) (numbers : List ℕ) → (call s (order numbers)).refusal ≡ 0 → AfterOrder s numbers (call s (order numbers)).state

-- 02, change 8: "A call replaces one gateway's limit"
pub record AfterLimit (s : State) (u limit : ℕ) (after : State) : Type 0 where
  pub small : after.small ≡ s.small
  pub links : after.links ≡ s.links
  pub order : after.order ≡ s.order
  pub holders : after.holders ≡ s.holders
  pub replaced : at after.limits u ≡ limit
  pub others : (v : ℕ) → (v ≡ u → ⊥) → at after.limits v ≡ at s.limits v

unfoldable pub LimitGives : Type 0
LimitGives = (s : State) (u limit : ℕ) → (call s (set_limit u limit)).refusal ≡ 0 → AfterLimit s u limit (call s (set_limit u limit)).state

-- "Place: .. k rises by one", in either way; what it does to the holders is said in search/specs/Search.antt and recursion/specs/Recursion.antt, and in Kept.antt
pub record AfterPlace (s after : State) : Type 0 where
  pub gateways : after.small.n ≡ s.small.n
  pub limit : after.small.t ≡ s.small.t
  pub link_count : after.small.m ≡ s.small.m
  pub one_more : after.small.k ≡ s.small.k + 1
  pub links : after.links ≡ s.links
  pub order : after.order ≡ s.order
  pub limits : after.limits ≡ s.limits

unfoldable pub PlaceGives : Type 0
PlaceGives = (s : State) (w : Way) → (call s (place_by w)).refusal ≡ 0 → AfterPlace s (call s (place_by w)).state

-- Read changes nothing of the record.
unfoldable pub ReadGives : Type 0
ReadGives = (s : State) (leaders choke : List ℕ) → (call s (read leaders choke)).state ≡ s

-- "A refused call returns its number and the small part as it came" (00: "a refused call changes no lent list and no record")
unfoldable pub RefusedUnchanged : Type 0
RefusedUnchanged = (s : State) (c : Call) → ((call s c).refusal ≡ 0 → ⊥) → (call s c).state ≡ s

unfoldable pub ReadRefused : Type 0
ReadRefused = (s : State) (leaders choke : List ℕ) → ((call s (read leaders choke)).refusal ≡ 0 → ⊥) → (read_leaders s leaders choke ≡ leaders) × (read_choke s leaders choke ≡ choke)

-- A call leaves a sound record sound, accepted or refused and however the record was made; and open gives a sound one, refused too.
unfoldable pub SoundStays : Type 0
SoundStays =
    ((n t : ℕ) (ls os hs ts : List ℕ) → SoundFacts (open_call n t ls os hs ts).state)
    × ((s : State) (c : Call) → SoundFacts s → SoundFacts (call s c).state)

-- "Entries past these lengths never change, taken with m as it is after the call."
pub record Past (before after : State) : Type 0 where
  pub links : drop (2 * after.small.m) after.links ≡ drop (2 * after.small.m) before.links
  pub order : drop after.small.n after.order ≡ drop after.small.n before.order
  pub holders : drop after.small.n after.holders ≡ drop after.small.n before.holders
  pub limits : drop after.small.n after.limits ≡ drop after.small.n before.limits

unfoldable pub PastUnchanged : Type 0
PastUnchanged = (s : State) (c : Call) → Past s (call s c).state

-- "Of any other lent list a call changes only what it is said to write": read the first n of both
unfoldable pub ReadPast : Type 0
ReadPast =
    (s : State) (leaders choke : List ℕ)
    → (drop s.small.n (read_leaders s leaders choke) ≡ drop s.small.n leaders) × (drop s.small.n (read_choke s leaders choke) ≡ drop s.small.n choke)

-- "Every held gateway is covered": by the leader list of any sound record, at any k. The list is a grouping of the record's plant.
unfoldable pub HeldCovered : Type 0
HeldCovered =
    (s : State) → SoundFacts s
    → Grouping s.small.n (limit_of s) (linked (links_of s)) (leader_list s.small.n s.order s.holders)
    × ((v : ℕ) → v < s.small.n → held s.small.n (at s.holders) v ≡ true → covered (leader_list s.small.n s.order s.holders) v ≡ true)

-- .. and it is what an accepted read writes, with the choke bytes of the same holders
unfoldable pub ReadWrites : Type 0
ReadWrites =
    (s : State) (leaders choke : List ℕ) → (call s (read leaders choke)).refusal ≡ 0
    → SoundFacts s
    × ((v : ℕ) → v < s.small.n → at (read_leaders s leaders choke) v ≡ leader_list s.small.n s.order s.holders v)
    × ((v : ℕ) → v < s.small.n → at (read_choke s leaders choke) v ≡ choke_byte s.small.n (links_of s) s.holders v)

-- 02, change 2: "In a group of two the one earlier in the order now leads": in what an accepted read writes, by the record's order, however the record was made
unfoldable pub ReadEarlierLeads : Type 0
ReadEarlierLeads =
    (s : State) (leaders choke : List ℕ) → (call s (read leaders choke)).refusal ≡ 0
    → EarlierLeads s.small.n (at s.order) (at (read_leaders s leaders choke))

-- .. "covered sets and choke sets are the same as before". What read writes with any way to decide who leads a pair; with `ltb`, the lower number, it is what read wrote before that change.
unfoldable pub read_leaders_by : (ℕ → ℕ → Bool) → State → List ℕ → List ℕ → List ℕ
read_leaders_by leadsPair s leaders choke =
    by_number (call_refusal s (read leaders choke)) (written s.small.n (list_of s.small.n (leader_list_by leadsPair s.small.n s.holders)) leaders) leaders

-- Of any record, sound or not, and any lists lent: the groups do not depend on it. The choke bytes do not either: `read_choke` is not told who leads.
unfoldable pub ReadWhoeverLeads : Type 0
ReadWhoeverLeads =
    (s : State) (leaders choke : List ℕ)
    → (read_leaders s leaders choke ≡ read_leaders_by (not_later (place_of s.small.n (at s.order))) s leaders choke)
    × ((leadsPair other : ℕ → ℕ → Bool) → SameGroups s.small.n (at (read_leaders_by leadsPair s leaders choke)) (at (read_leaders_by other s leaders choke)))

-- So the order of a record decides nothing of what an accepted read writes but who leads a pair.
unfoldable pub ReadAnyOrder : Type 0
ReadAnyOrder =
    (s : State) (os leaders choke : List ℕ) → (call s (read leaders choke)).refusal ≡ 0 → (call (with_order os s) (read leaders choke)).refusal ≡ 0
    → SameGroups s.small.n (at (read_leaders s leaders choke)) (at (read_leaders (with_order os s) leaders choke))
    × (read_choke s leaders choke ≡ read_choke (with_order os s) leaders choke)
