-- From the lists of an accepted file to its plan: what the placings start from, and what is written once they are made.
use Prim.Native.Nat.{ℕ, ◌*◌, ◌<◌, ◌≤◌}
use mathlib.Core.Path.{◌≡◌, refl, sym, ap, ◌∙◌}
use mathlib.Core.Bool.{Bool, true}
use mathlib.Core.List.{List}
use native.Mathlib.Omega.{arith}
use lib.ListN.{length, take, replicate, length-replicate}
use Rattle.packing.specs.Count.{pick}
use Rattle.packing.specs.Lists.{list_of, written}
use Rattle.packing.specs.Plant.{GATEWAYS, HIGHEST, NONE, at, first_links}
use Rattle.packing.proofs.Lists.{list_of_ext, written-room, written_at, written-front, written-whole, repeated_at}
use Rattle.sound.specs.Searchable.{searchable}
use Rattle.sound.proofs.Searchable.{Searchable, searchable-holds, sound_searchable}
use Rattle.chains.proofs.LinkMore.{index_for}
use Rattle.search.specs.Search.{seen}
use Rattle.search.specs.ChokeSet.{in_choke, choke_byte}
use Rattle.search.specs.ChokePre.{seen_byte, Workable}
use Rattle.search.proofs.Rows.{take-replicate, rows_none}
use Rattle.search.proofs.Settling.{marks-room, place-marks}
use Rattle.stars.specs.Stars.{leader_list, leaders_written}
use Rattle.stars.proofs.Lent.{leaders_written_lem}
use Rattle.stars.proofs.OrderPlaces.{list-by-order}
use Rattle.planner.specs.declared.Small.{Small}
use Rattle.planner.specs.declared.Way.{Way}
use Rattle.planner.specs.declared.Way.TheVariants.{Queued}
use Rattle.planner.specs.Calls.{read_leaders, read_choke}
use Rattle.violator.specs.declared.WhyCounts.{WhyCounts}
use Rattle.violator.specs.WhyAlone.{why_conditions, why_refusal, why_answer, why_first, why_second}
use Rattle.violator.specs.WhyPlaced.{placed_counts, placed_first, placed_second, counts_of}
use Rattle.violator.proofs.WhyPlaced.{look_of_record}
use Rattle.plant_file.specs.PlantFile.{file_n, file_m, file_links, file_order, file_limits, file_refusal}
use Rattle.plant_file.specs.Indexed.{Indexed}
use Rattle.plant_file.proofs.LinksByIndex.{links-long, order-long}
use Rattle.plant_file.proofs.GatewayLimits.{limits-long, limits-at}
use Rattle.plant_file.proofs.Accepted.{file_allowed}
use Rattle.std.specs.Prelude.{Result, IfOk}
use Rattle.refusal.specs.declared.Refusal.{Refusal}
use Rattle.refusal.specs.Refusals.{code}
use Rattle.plan.specs.Plan.{state_by, file_state}
use Rattle.plan.specs.After.{plan_after_refusal}
use Rattle.plan.specs.declared.work.Work.{Work}
use Rattle.plan.specs.Pre.{is_queued, Loaded, Placings, NobodyIn, Making, Choking, Readable}
use Rattle.plan.proofs.Refusing.{plan-places}
use Rattle.plan.proofs.After.{reads, file_agrees}
use Rattle.plan.proofs.Asking.{state_sound, file_ends}
use Rattle.plan.proofs.NextPlacing.{first-holders}

-- the arrays to work in, of which the first n marks are lent
module _ (file : List ℕ) {ls next os ts : List ℕ} (l : Loaded file ls next os ts) where
  few : file_n file ≤ GATEWAYS
  few = (file_allowed file l.accepted).few

  pub lent-marks : {n : ℕ} {all : List ℕ} → n ≡ file_n file → all ≡ replicate GATEWAYS NONE → (n ≤ length all) × (n ≡ length (take n all))
  lent-marks e none = rw e (marks-room none few, place-marks none few)

  pub lent_rows : {rows : List (List ℕ)} → rows ≡ replicate GATEWAYS (replicate HIGHEST NONE) → NobodyIn (file_n file) rows
  lent_rows is = rw is (record { wide = rw length-replicate few; most = rw length-replicate (omega arith); empty = ap (λ (k : ℕ). replicate k (replicate HIGHEST NONE)) (sym (length-replicate GATEWAYS (replicate HIGHEST NONE))) })

  pub lent_making : {k n : ℕ} {work : Work} → k ≤ file_n file → n ≡ file_n file → NobodyIn (file_n file) work.held.rows.now → work.held.holders.now ≡ replicate GATEWAYS 0 → work.queue.now ≡ replicate GATEWAYS 0
      → work.dead.now ≡ take n (replicate GATEWAYS NONE) → work.looked.now ≡ replicate GATEWAYS 0 → Making file k work
  lent_making within e nobody zeros zeros₂ none zeros₃ =
      record {
        within = within;
        nobody = nobody;
        zeros = zeros;
        places = rw (zeros₂, length-replicate) few;
        none = (rw e at none) ∙ take-replicate (file_n file) GATEWAYS NONE few;
        room = rw (zeros₃, length-replicate) few;
      }

-- nobody is held yet
module _
    (w : Way) (file : List ℕ) (k : ℕ) {ls next os ts : List ℕ} (given : Loaded file ls next os ts) {work : Work} (m : Making file k work)
  where
    pub making_placings : {n : ℕ} {work' : Work} → n ≡ file_n file → work'.held.holders.now ≡ written n (replicate n NONE) work.held.holders.now → work'.held.rows.now ≡ work.held.rows.now
        → (work'.queue.now ≡ work.queue.now) × (work'.dead.now ≡ work.dead.now) × (work'.looked.now ≡ work.looked.now) → Placings w file k work'
    making_placings {n} {work'} e held rows (queue, dead, looked) =
        record {
          within = m.within;
          first = held ∙ rw (e, m.zeros) (sym (first-holders file given.accepted w));
          table = rw rows (rows_none (file_n file) work'.held.holders.now (length work.held.rows.now) m.nobody.wide m.nobody.most (λ v l. ap (λ (k : List ℕ). at k v) held ∙ rw e (repeated_at (file_n file) NONE work.held.holders.now v l)) m.nobody.empty);
          places = rw queue m.places;
          none = dead ∙ m.none;
          room = rw looked m.room;
        }

-- a search may be made with the holders of the record made
made-searchable : (w : Way) (file : List ℕ) (k : ℕ) → file_refusal file ≡ 0 → k ≤ file_n file → Searchable (file_n file) (state_by w file k).holders
made-searchable w file k z within =
    let a = file_agrees file z w k within in
    let few : (state_by w file k).small.n ≡ file_n file = ap (λ (small : Small). small.n) a.small in
    rw few at (sound_searchable a.made.sound)

-- the choke bytes: by the marks, and by the walk of its own
module _
    (w : Way) (file : List ℕ) (k : ℕ) {ls next os ts : List ℕ} (given : Loaded file ls next os ts) {work : Work} {choke : List ℕ} (c : Choking w file k work choke)
  where
    abbrev hs : List ℕ
    hs = work.held.holders.now

    abbrev dead : List ℕ
    dead = work.dead.now

    module _ (queued : w ≡ Queued) {n : ℕ} (e : n ≡ file_n file) (every : k ≡ n) where
      marked : (length dead ≡ file_n file) × ((u : ℕ) → u < file_n file → seen dead u ≡ in_choke (file_n file) (file_links file) (state_by w file k).holders u)
      unfolding is_queued
      marked = c.dead_choke (rw queued refl) (every ∙ e)

      pub choking_marked : {choke' : List ℕ} → choke' ≡ written (length dead) (list_of (length dead) (seen_byte dead)) choke
          → choke' ≡ written (file_n file) (list_of (file_n file) (choke_byte (file_n file) (file_links file) (state_by w file k).holders)) choke
      unfolding choke_byte seen_byte
      choking_marked f = (rw marked.0 at f) ∙ ap (λ (l : List ℕ). written (file_n file) l choke) (list_of_ext (file_n file) (seen_byte dead) (choke_byte (file_n file) (file_links file) (state_by w file k).holders) (λ u l. ap (λ (b : Bool). pick b 1) (marked.1 u l)))

    made_may : Searchable (file_n file) (state_by w file k).holders
    made_may = made-searchable w file k given.accepted c.within

    pub choking_works : {n : ℕ} {dead' : List ℕ} → n ≡ file_n file → dead' ≡ written n (replicate n NONE) dead → Workable n work.held.rows.now hs work.queue.now dead' choke
    choking_works {n} {dead'} e f =
        rw e
        (record {
          lent = record { few = made_may.few; entries = rw c.made made_may.holders; places = c.room };
          table = record { is = c.table; within = rw c.made made_may.within };
          space = record { places = c.places; unseen = (rw e at f) ∙ written-whole (file_n file) (replicate (file_n file) NONE) dead (length-replicate (file_n file) NONE) (omega (arith, c.marks)) };
        })

    pub choking_walked : {n : ℕ} {choke' : List ℕ} → n ≡ file_n file → choke' ≡ written n (list_of n (choke_byte n ls hs)) choke
        → choke' ≡ written (file_n file) (list_of (file_n file) (choke_byte (file_n file) (file_links file) (state_by w file k).holders)) choke
    choking_walked e f = rw (e, given.links, c.made) at f

-- the plan of the lists
module _ (w : Way) (file : List ℕ) (k : ℕ) {ls next os ts : List ℕ} (given : Loaded file ls next os ts) {leaders choke : List ℕ} (r : Readable file k leaders choke) where
  accepted : file_refusal file ≡ 0
  accepted = given.accepted

  module _ {n : ℕ} {hs : List ℕ} (e : n ≡ file_n file) (made : hs ≡ (state_by w file k).holders) where
    pub reading_leaders : {leaders' : List ℕ} → leaders' ≡ leaders_written n os hs leaders → leaders' ≡ read_leaders (state_by w file k) leaders choke
    unfolding read_leaders
    reading_leaders {leaders'} f =
        let a = file_agrees file accepted w k r.within in
        let small : (state_by w file k).small.n ≡ file_n file = ap (λ (s : Small). s.n) a.small in
        let long : file_n file ≤ length (state_by w file k).holders = rw small at a.made.sound.holders-long in
        let mine : leaders' ≡ leaders_written (file_n file) os (state_by w file k).holders leaders = rw (e, made) at f in
        mine
        ∙ leaders_written_lem (file_n file) os (state_by w file k).holders leaders given.order-long (record { few = few file given; entries = long; places = r.room })
        ∙ rw (reads file accepted w k r.within leaders choke r.room r.room₂, small)
        (ap (λ (l : List ℕ). written (file_n file) l leaders)
        (list_of_ext (file_n file) (leader_list (file_n file) os (state_by w file k).holders) (leader_list (file_n file) (state_by w file k).order (state_by w file k).holders)
        (λ v l. list-by-order (file_n file) os (state_by w file k).order (state_by w file k).holders (λ i q. given.order i q ∙ sym (a.order i q)) v)))

  pub reading_choke : {choke' : List ℕ} → choke' ≡ written (file_n file) (list_of (file_n file) (choke_byte (file_n file) (file_links file) (state_by w file k).holders)) choke
      → choke' ≡ read_choke (state_by w file k) leaders choke
  unfolding read_choke
  reading_choke f =
      let a = file_agrees file accepted w k r.within in
      f ∙ rw (reads file accepted w k r.within leaders choke r.room r.room₂, a.small, a.links)

-- the lists that a check of the file leaves
module _ (file : List ℕ) (z : file_refusal file ≡ 0) {links₀ order₀ limits₀ links next order limits : List ℕ} (d : Indexed file links₀ order₀ limits₀ links next order limits) where
  pub loaded-ends : 2 * file_m file ≤ length links
  loaded-ends = rw d.ends (written-room (2 * file_m file) (file_links file) links₀ (links-long file))

  loaded-links : take (2 * file_m file) links ≡ file_links file
  loaded-links = rw d.ends (written-front (2 * file_m file) (file_links file) links₀ (links-long file))

  pub loaded_lists : Loaded file (take (2 * file_m file) links) next order limits
  loaded_lists =
      record {
        accepted = z;
        links = loaded-links;
        index = rw loaded-links (index_for (file_n file) (file_links file) (file_ends file z) d.index);
        order-long = rw d.ordered (written-room (file_n file) (file_order file) order₀ (order-long file));
        order = λ i l. rw d.ordered (written_at (file_n file) (file_order file) order₀ (order-long file) i l);
        limits-long = rw d.limited (written-room (file_n file) (file_limits file) limits₀ (limits-long file));
        limits = λ u l. rw d.limited (written_at (file_n file) (file_limits file) limits₀ (limits-long file) u l ∙ limits-at file u l);
      }

pub called_readable : {file : List ℕ} {k : ℕ} (leaders choke : List ℕ) {e : ℕ} → e ≡ plan_after_refusal file k (length leaders) (length choke) → e ≡ 0 → Readable file k leaders choke
called_readable {file} {k} leaders choke is fine = let (_, within, room, room₂) = plan-places file k (length leaders) (length choke) is fine in record { within = within; room = room; room₂ = room₂ }

-- why a gateway is alone in the record made
module _ (file : List ℕ) {ls next os ts : List ℕ} (l : Loaded file ls next os ts) where
  module _ {n : ℕ} {hs : List ℕ} (e : n ≡ file_n file) (made : hs ≡ (state_by Queued file n).holders) where
    made_all : hs ≡ (file_state file).holders
    unfolding file_state
    made_all = rw e at made

    pub asking_searchable : searchable n hs ≡ true
    unfolding file_state
    asking_searchable = rw (e, made_all) (searchable-holds (made-searchable Queued file (file_n file) l.accepted (omega arith)))

    pub asking_answered : (v : ℕ) (first second : List ℕ) (r : Result WhyCounts Refusal) {first' second' : List ℕ} → code r ≡ why_conditions n n os hs v (length first) (length second)
        → IfOk r (λ counts. counts ≡ placed_counts n ls hs v) → (first' ≡ placed_first n n ls os hs v first second) × (second' ≡ placed_second n n ls os hs v first second)
        → (code r ≡ why_refusal (file_state file) v (length first) (length second))
        × (IfOk r (λ counts. counts ≡ counts_of (why_answer (file_state file) v (length first) (length second)))
        × ((first' ≡ why_first (file_state file) v first second) × (second' ≡ why_second (file_state file) v first second)))
    unfolding file_state
    asking_answered v first second r a is lists =
        let g = file_agrees file l.accepted Queued (file_n file) (omega arith) in
        look_of_record (file_state file) (state_sound file l.accepted) n n ls os hs (ap (λ (s : Small). s.n) g.small ∙ sym e) (ap (λ (s : Small). s.k) g.small ∙ sym e)
        (ap (λ (s : Small). first_links s.m (file_state file).links) g.small ∙ g.links ∙ sym l.links) (sym made_all) (λ i q. let less : i < file_n file = rw e at q in g.order i less ∙ sym (l.order i less)) v first second r a is lists
