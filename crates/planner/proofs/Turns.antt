-- Each call gives the first number of its turn whose condition holds: test by test, what it says in words.
use Prim.Native.Nat.{ℕ, zero, suc, ◌+◌, ◌*◌, ◌<◌, ◌≤◌}
use mathlib.Core.Path.{◌≡◌, refl, sym, ap, ◌∙◌}
use mathlib.Core.Logic.{◌⊎◌, inl, inr, ⊎_elim}
use mathlib.Core.Bool.{false, not, ◌||◌, true≢false}
use mathlib.Core.List.{List}
use lib.Dec.{eqb, ltb, leb}
use lib.ListN.{length}
use native.Mathlib.Omega.{arith}
use borrow.Author.Tests.{not-true, not-false, ltb-true, ltb-false, le-leb}
use Rattle.packing.specs.Plant.{GATEWAYS, LINKS, LOWEST, HIGHEST, linked}
use Rattle.packing.specs.Orders.{repeats_or_outside}
use Rattle.packing.specs.Turns.{FirstNamed, LinkThere, first_end, second_end}
use Rattle.packing.proofs.Turns.{Says, turn-done, turn-named, says_less, says-most, says_same, says_either, says-not, says-linked, says_first, says-order}
use Rattle.packing.proofs.Tests.{by_bool}
use Rattle.sound.specs.Sound.{is_limit}
use Rattle.sound.proofs.Meaning.{limit_means}
use Rattle.planner.specs.Refusals.{open_refusal, link_conditions, order_conditions, limit_conditions, place_conditions, read_conditions}
use Rattle.planner.specs.State.{sound_state}
use Rattle.planner.specs.Calls.{open_call, Call, link, order, set_limit, place_by, read, conditions_of, conditions, call_refusal, call}
use Rattle.planner.specs.Told.{beginning, refuses, tell}
use Rattle.planner.specs.Tells.{TellsPlant}
use Rattle.planner.specs.Turns.{open_turn, link_turn, order_turn, limit_turn, place_turn, read_turn, turn_of, call_turn, told_turn, OpenExactly, CallExactly, ToldExactly}
use Rattle.planner.proofs.Tells.{tells_accepted}
use Rattle.planner.proofs.Next.{says_sound}

pub open_exactly : OpenExactly
unfolding OpenExactly open_turn open_call open_refusal
open_exactly n t ls os hs ts =
    turn-named (ltb GATEWAYS n) 1 _ _ (says_less GATEWAYS n)
    (λ _. turn-named (ltb t LOWEST || ltb HIGHEST t) 2 _ _ (says_either _ _ (says_less t LOWEST) (says_less HIGHEST t))
    (λ _. turn-named (ltb (length os) n || (ltb (length hs) n || ltb (length ts) n)) 10 0 _ (says_either _ _ (says_less (length os) n) (says_either _ _ (says_less (length hs) n) (says_less (length ts) n))) (λ _. turn-done)))

-- link's, where the test for a link that is there says so of the m links
link_exactly : (n k m : ℕ) (l ls : List ℕ) (room a b : ℕ) → Says (linked l a b) (LinkThere m (first_end ls) (second_end ls) a b) → FirstNamed (link_turn n k m ls room a b) (link_conditions n k m l room a b)
unfolding link_turn link_conditions
link_exactly n k m l ls room a b there =
    turn-named (ltb 0 k) 22 _ _ (says_less 0 k)
    (λ _. turn-named (leb n a || leb n b) 3 _ _ (says_either _ _ (says-most n a) (says-most n b))
    (λ _. turn-named (eqb a b) 4 _ _ (says_same a b)
    (λ _. turn-named (linked l a b) 20 _ _ there
    (λ _. turn-named (eqb m LINKS || ltb room (2 * m + 2)) 21 0 _ (says_either _ _ (says_same m LINKS) (says_less room (2 * m + 2))) (λ _. turn-done)))))

order_exactly : (n k : ℕ) (numbers : List ℕ) → FirstNamed (order_turn n k numbers) (order_conditions n k numbers)
unfolding order_turn order_conditions
order_exactly n k numbers =
    turn-named (ltb 0 k) 22 _ _ (says_less 0 k)
    (λ _. turn-named (not (eqb (length numbers) n)) 5 _ _ (says-not _ (says_same (length numbers) n))
    (λ _. turn-named (repeats_or_outside n numbers) 6 0 _ (says-order n numbers) (λ _. turn-done)))

-- a limit that is none of 2 to 16
below_two : (limit : ℕ) → is_limit limit ≡ false → limit ≤ 16 → (limit ≡ 0) ⊎ (limit ≡ 1)
unfolding is_limit
below_two zero e h = inl refl
below_two (suc zero) e h = inr refl
below_two (suc (suc x)) e h = absurd (true≢false (sym (rw (le-leb 2 (suc (suc x)) (omega arith)) (le-leb (suc (suc x)) 16 h)) ∙ e))

says-limit : (limit : ℕ) → Says (not (is_limit limit)) ((limit ≡ 0) ⊎ (limit ≡ 1) ⊎ (16 < limit))
says-limit limit =
    record {
      holds = λ e.
          by_bool (ltb 16 limit) (λ q. inr (inr (ltb-true 16 limit q)))
          (λ q. ⊎_elim (λ z. inl z) (λ o. inr (inl o)) (below_two limit (not-true (is_limit limit) e) (ltb-false 16 limit q)));
      fails = λ e p. let (low, high) = limit_means limit (not-false (is_limit limit) e) in ⊎_elim (λ z. omega arith) (⊎_elim (λ o. omega arith) (λ h. omega arith)) p;
    }

limit_exactly : (n k u limit : ℕ) → FirstNamed (limit_turn n k u limit) (limit_conditions n k u limit)
unfolding limit_turn limit_conditions
limit_exactly n k u limit =
    turn-named (ltb 0 k) 22 _ _ (says_less 0 k)
    (λ _. turn-named (leb n u) 30 _ _ (says-most n u)
    (λ _. turn-named (not (is_limit limit)) 33 0 _ (says-limit limit) (λ _. turn-done)))

place_exactly : (n k : ℕ) → FirstNamed (place_turn n k) (place_conditions n k)
unfolding place_turn place_conditions
place_exactly n k = turn-named (eqb k n) 24 0 _ (says_same k n) (λ _. turn-done)

read_exactly : (n : ℕ) (leaders choke : List ℕ) → FirstNamed (read_turn n leaders choke) (read_conditions n (length leaders) (length choke))
unfolding read_turn read_conditions
read_exactly n leaders choke =
    turn-named (ltb (length leaders) n || ltb (length choke) n) 10 0 _ (says_either _ _ (says_less (length leaders) n) (says_less (length choke) n)) (λ _. turn-done)

-- each call after 26, where the test for a link says which of the m links it is
calls_exactly : (n k m : ℕ) (l ls : List ℕ) (room : ℕ) → ((a b : ℕ) → Says (linked l a b) (LinkThere m (first_end ls) (second_end ls) a b)) → (c : Call)
    → FirstNamed (turn_of n k m ls room c) (conditions_of n k m l room c)
calls_exactly n k m l ls room there (link a b) = link_exactly n k m l ls room a b (there a b)
calls_exactly n k m l ls room there (order numbers) = order_exactly n k numbers
calls_exactly n k m l ls room there (set_limit u limit) = limit_exactly n k u limit
calls_exactly n k m l ls room there (place_by w) = place_exactly n k
calls_exactly n k m l ls room there (read leaders choke) = read_exactly n leaders choke

pub call_exactly : CallExactly
unfolding CallExactly call_turn call call_refusal conditions
call_exactly s c =
    let sound = says_sound s in
    turn-named (not (sound_state s)) 26 _ _ (says-not _ sound) (λ e. calls_exactly _ _ _ _ _ _ (λ a b. says_first s.small.m s.links a b (sound.holds (not-false (sound_state s) e)).links_long) c)

-- what the calls tell: the links are whole, two numbers for each of m
pub told_exactly : ToldExactly
unfolding ToldExactly TellsPlant told_turn refuses
told_exactly n t room calls c =
    let p = tell (beginning n t room) calls in
    let plant = tells_accepted n t room calls in
    calls_exactly _ _ _ _ _ _ (λ a b. says-linked p.m p.links a b (ap length plant.links ∙ sym plant.count)) c
