-- The listing's text is the text of what the daemon's bytes say: both go by the plan of the file.
use Prim.Native.Nat.{ℕ, zero, suc, ◌+◌, ◌*◌, ◌<◌, ◌≤◌}
use mathlib.Core.Path.{◌≡◌, refl, sym, ap, ◌∙◌}
use mathlib.Core.List.{List}
use native.Mathlib.Omega.{arith}
use lib.Dec.{ltb}
use lib.ListN.{length, replicate}
use lib.Seq.{get_or-take}
use borrow.Author.Tests.{le-ltb}
use Rattle.packing.specs.Lists.{list_of}
use Rattle.packing.specs.Plant.{GATEWAYS, at}
use Rattle.packing.proofs.Lists.{list_of-at}
use Rattle.plant_file.specs.PlantFile.{file_n, file_t, file_refusal, file_then_short}
use Rattle.plant_file.proofs.Accepted.{file_allowed}
use Rattle.plant_file.proofs.Refusing.{then_file, then_alone}
use Rattle.plan.specs.Plan.{plan_refusal, plan_leaders, plan_choke}
use Rattle.plan.proofs.FilePlan.{plan-own, leaders_front, choke_front}
use Rattle.report.specs.Text as text
use Rattle.report.proofs.Alike.{listing_alike}
use Rattle.daemon.specs.Groups.{bytes_for, groups_refusal, groups_out}
use Rattle.daemon.specs.Claim.{leader_at, choke_at}
use Rattle.daemon.proofs.Claim.{leader-is, choke_is}
use Rattle.listing.specs.Listed.{text_by, file_text}
use Rattle.listing.specs.OneProgram.{text_of, OneProgram}

-- with room for every plant the file's number stands alone
alone : (file out : List ℕ) → 3 * GATEWAYS + 4 ≤ length out → groups_refusal file (length out) ≡ file_refusal file
unfolding groups_refusal
alone file out room = by (file_refusal file) refl
  where
    by : (e : ℕ) → file_refusal file ≡ e → file_then_short file (ltb (length out) (bytes_for (file_n file))) ≡ file_refusal file
    by zero z = rw (le-ltb (length out) (bytes_for (file_n file)) (omega (arith, (file_allowed file z).few))) (then_alone file)
    by (suc e) z = sym (then_file file _ refl (λ q. omega arith))

module _ (file out : List ℕ) (room : 3 * GATEWAYS + 4 ≤ length out) (z : file_refusal file ≡ 0) where
  same_leader : (v : ℕ) → v < file_n file → at (plan_leaders file (replicate GATEWAYS 0) (replicate GATEWAYS 0)) v ≡ at (list_of (file_n file) (leader_at (groups_out file out))) v
  same_leader v l =
      sym (get_or-take (file_n file) (plan_leaders file (replicate GATEWAYS 0) (replicate GATEWAYS 0)) v 0 l)
      ∙ ap (λ (k : List ℕ). at k v) (leaders_front file z refl refl refl refl).is
      ∙ leader-is file out (alone file out room ∙ z) v l ∙ sym (list_of-at (file_n file) (leader_at (groups_out file out)) v l)

  same_choke : (v : ℕ) → v < file_n file → at (plan_choke file (replicate GATEWAYS 0) (replicate GATEWAYS 0)) v ≡ at (list_of (file_n file) (choke_at (file_n file) (groups_out file out))) v
  same_choke v l =
      sym (get_or-take (file_n file) (plan_choke file (replicate GATEWAYS 0) (replicate GATEWAYS 0)) v 0 l)
      ∙ ap (λ (k : List ℕ). at k v) (choke_front file z refl refl refl refl).is
      ∙ choke_is file out (alone file out room ∙ z) v l ∙ sym (list_of-at (file_n file) (choke_at (file_n file) (groups_out file out)) v l)

pub one_program : OneProgram
unfolding OneProgram file_text text_of
one_program file out room = rw (alone file out room, number_is) (by (file_refusal file) refl)
  where
    number_is : plan_refusal file GATEWAYS GATEWAYS ≡ file_refusal file
    number_is = plan-own file {a = replicate GATEWAYS 0} {b = replicate GATEWAYS 0} refl refl

    by : (e : ℕ) → file_refusal file ≡ e
        → text_by e (text.listing (file_n file) (file_t file) (plan_leaders file (replicate GATEWAYS 0) (replicate GATEWAYS 0)) (plan_choke file (replicate GATEWAYS 0) (replicate GATEWAYS 0)))
        ≡ text_by e (text.listing (file_n file) (file_t file) (list_of (file_n file) (leader_at (groups_out file out))) (list_of (file_n file) (choke_at (file_n file) (groups_out file out))))
    by zero z = listing_alike (file_n file) _ _ (same_leader file out room z) (file_t file) _ _ (same_choke file out room z)
    by (suc e) z = refl
