-- Which rows the world's format can spell: those that fit together.
use Rattle.std.proofs.Common.{◌≡◌, ℕ, zero, suc, ◌+◌, ◌<◌, ◌≤◌, ◌^◌, true, false, eqb, List, [], ◌∷◌, ◌++◌, Option, Some, None, length, cond, refl, sym, ap, subst, ◌∙◌, arith, append_assoc, append-nil}
use Rattle.std.specs.Ordering.{eq_by_cmp, is_lt, nat_cmp}
use Rattle.std.specs.Cmp.{nat_cmp_total}
use Rattle.std.specs.List.{AllByRecursion}
use Rattle.std.specs.FinMap.Entries.{below_all, find}
use Rattle.std.proofs.lemmas.Bool.Decides.{nat_tests}
use Rattle.coord_types.specs.Facade.{IsMaskable, NodeSet, carried, mask_of}
use Rattle.coord_types.specs.declared.messages.Mode.{Mode}
use Rattle.coord_types.specs.declared.messages.Mode.TheVariants as modes
use Rattle.coord_types.specs.declared.messages.Msg.{Msg}
use Rattle.coord_types.specs.declared.steps.Command.{Command}
use Rattle.coord_types.specs.declared.steps.Command.TheVariants.{Add, Remove, Join, Drop, Reset, Confirm}
use Rattle.coord_types.specs.declared.steps.Kind.{Kind}
use Rattle.coord_types.specs.declared.steps.Kind.TheVariants as kinds
use Rattle.coord_types.proofs.Masks.{maskable_nodes, mask_below, nodes_back}
use Rattle.coord_link.specs.declared.lane.TheConstants.{PLACES}
use Rattle.coord_link.specs.LaneMachine.{Lane}
use Rattle.coord_world.specs.Facade.{CarryWithin, IsNode, LaneInRange, LanesCarryWithin, LinkRowFits, NodeRowFits, RowIsDistant, Rows, RowsFit, SessionInRange, answers, by_client, by_ends, by_id, degree, farthest, group_in, group_of, is_end, pair_cmp, pair_cmp_total}
use Rattle.coord_world.specs.declared.rows.parts.NodeRow.{NodeRow}
use Rattle.coord_tables.specs.declared.links.LinkRow.{LinkRow}
use Rattle.coord_world.specs.declared.rows.parts.ClientRow.{ClientRow}
use Rattle.coord_world.proofs.Facade.{all_weaker, both, farthest_le}
use Rattle.coord_batch.specs.Decoding.{is_version}
use Rattle.coord_batch.specs.Fields.{distance, message, unless}
use Rattle.coord_batch.specs.Format.{FitAfter, Format}
use Rattle.coord_codec.specs.Worlds.{client_row, clients, ends, kind, lane, last_by, last_ends, link_row, links, mask, mode, most_distance, node_row, nodes, parent, queue, same_group, world}
use Rattle.coord_batch.proofs.Batched.{command_fits, command_in_range, at_most_fits, at_most_in_range, client_fits, client_in_range, from_one_to_fits, from_one_to_in_range, group_fits, group_in_range, how_many_fits, how_many_in_range, message_fits, message_in_range, node_fits, node_in_range}
use Rattle.coord_codec.proofs.RowsRead.{RiseFrom, above_zero, few_keys, last_push, rise_of_sorted, sorted_of_rise}

-- ---- fields

mode_fits : (m : Mode) → mode.Fits m
unfolding mode
mode_fits modes.Ready = (0, (omega arith, refl), refl)
mode_fits modes.Abort = (1, (omega arith, refl), refl)
mode_fits modes.Converge = (2, (omega arith, refl), refl)

parent_in_range : (o : Option ℕ) → parent.Fits o → (p : ℕ) → o ≡ Some p → IsNode p
unfolding parent
parent_in_range o h1 p h2 = grind arith

parent_fits : (o : Option ℕ) → ((p : ℕ) → o ≡ Some p → IsNode p) → parent.Fits o
unfolding parent
parent_fits None each = (0, (omega arith, refl), refl)
parent_fits (Some zero) each = absurd (omega (arith, (each 0 refl).0))
parent_fits (Some (suc n)) each = let range = each (suc n) refl in (suc n, (omega (arith, range.1), grind (arith, nat_tests, range.1)), refl)

mask_in_range : (s : NodeSet) → mask.Fits s → IsMaskable s
unfolding mask
mask_in_range s fits = subst IsMaskable (sym fits.2) (maskable_nodes fits.0)

mask_fits : (s : NodeSet) → IsMaskable s → mask.Fits s
unfolding mask
mask_fits s range = (mask_of s, mask_below s, sym (nodes_back s range))

kind_in_range : (x : Command) (k : Kind) → (kind x).Fits k → answers x k ≡ true
unfolding kind
kind_in_range x k fits = fits.1

-- a distance up to a number is one within what the version allows
distance_in : (version most n : ℕ) → (distance version most).Fits n → n ≤ farthest version most
unfolding distance unless
distance_in version most n fits = grind (arith, at_most_in_range)

distance_fits : (version most n : ℕ) → most < 2 ^ 64 → n ≤ farthest version most → (distance version most).Fits n
unfolding distance unless
distance_fits version most n small few = grind (arith, at_most_fits)

node_distance_in : (version count n : ℕ) (m : Mode) → (distance version (most_distance m count)).Fits n → (n ≤ farthest version count) × (m ≡ modes.Ready → n ≡ 0)
node_distance_in version count n m h1 = grind (arith, distance_in, farthest_le)

node_distance_fits : (version count n : ℕ) (m : Mode) → count < 2 ^ 64 → n ≤ farthest version count → (m ≡ modes.Ready → n ≡ 0) → (distance version (most_distance m count)).Fits n
node_distance_fits version count n m h1 h2 h3 = grind (arith, distance_fits)

-- ---- rows by number

-- a row fits after others if it is in its range and its number above theirs
module _ {Row : Type 0} (key : Row → ℕ) (row : List Row → Format Row) (IsRow : Row → Type 0) where
  abbrev IsAbove : List Row → Row → Type 0
  IsAbove front r = is_lt (nat_cmp (last_by key 0 front) (key r)) ≡ true

  all_in : ((front : List Row) (r : Row) → (row front).Fits r → IsRow r × IsAbove front r) → (front rs : List Row) → FitAfter row front rs → AllByRecursion IsRow rs × RiseFrom key nat_cmp_total (last_by key 0 front) rs
  unfolding FitAfter
  all_in one_in front [] fits = (tt, tt)
  all_in one_in front (r ∷ rs) fits = grind (arith, nat_tests, one_in front r fits.0, all_in one_in (front ++ r ∷ []) rs fits.1, last_push)

  all_fit : ((front : List Row) (r : Row) → IsRow r → IsAbove front r → (row front).Fits r) → (front rs : List Row) → AllByRecursion IsRow rs → RiseFrom key nat_cmp_total (last_by key 0 front) rs → FitAfter row front rs
  unfolding FitAfter
  all_fit one_fits front [] all rise = tt
  all_fit one_fits front (r ∷ rs) all rise = (
    one_fits front r all.0 rise.0,
    all_fit one_fits (front ++ r ∷ []) rs all.1 (rw (last_push key 0 front r) rise.1),
  )

-- ---- nodes

abbrev node_key : NodeRow → ℕ
node_key r = r.id

module _ (version count : ℕ) where
  abbrev IsRow : NodeRow → Type 0
  IsRow r = NodeRowFits count r × RowIsDistant version count r

  node_row_in : (front : List NodeRow) (r : NodeRow) → (node_row version count front).Fits r → IsRow r × (is_lt (nat_cmp (last_by node_key 0 front) r.id) ≡ true)
  unfolding node_row
  node_row_in front r fits = grind (arith, nat_tests, node_distance_in, node_in_range, group_in_range, parent_in_range, mask_in_range, at_most_in_range)

  node_row_fits : count < 2 ^ 64 → (front : List NodeRow) (r : NodeRow) → IsRow r → is_lt (nat_cmp (last_by node_key 0 front) r.id) ≡ true → (node_row version count front).Fits r
  unfolding node_row
  node_row_fits small front r both_ranges above = let range = both_ranges.0 in (
    ((r.id, (r.group, (r.mode, (r.parent, (r.pend, (r.epoch, r.confirmed)))))), r.distance),
    (
      (
        (node_fits r.id (range.least, range.greatest), grind (arith, nat_tests, above)),
        (group_fits r.group range.group_least range.group_greatest, (mode_fits r.mode, (parent_fits r.parent range.parent, (mask_fits r.pend range.pend, (at_most_fits count r.epoch small range.epoch, at_most_fits count r.confirmed small range.confirmed))))),
      ),
      node_distance_fits version count r.distance r.mode small both_ranges.1.within both_ranges.1.ready,
    ),
    refl,
  )

-- ---- degrees

degree-push : (u : ℕ) (front : List LinkRow) (r : LinkRow) → degree u (front ++ r ∷ []) ≡ cond (is_end u r) (degree u front + 1) (degree u front)
degree-push u [] r = grind (arith, nat_tests)
degree-push u (f ∷ fs) r = grind (arith, nat_tests, degree-push u fs r)

degree-append : (u : ℕ) (front rs : List LinkRow) → degree u (front ++ rs) ≡ degree u front + degree u rs
degree-append u [] rs = omega arith
degree-append u (f ∷ fs) rs = grind (arith, nat_tests, degree-append u fs rs)

-- ---- links

abbrev link_key : LinkRow → ℕ × ℕ
link_key r = (r.a, r.b)

one_group : (p q : Option ℕ) → same_group p q ≡ true → (g : ℕ) × (p ≡ Some g) × (q ≡ Some g)
one_group p q h1 = grind arith

in_one_group : (p q : Option ℕ) (g : ℕ) → p ≡ Some g → q ≡ Some g → same_group p q ≡ true
in_one_group p q g first second = (λ i. same_group (first i) (second i)) ∙ grind (arith, nat_tests)

-- what a link's row says of its ends
record Linked (listed : List NodeRow) (front : List LinkRow) (a b : ℕ) : Type 0 where
  pub first : IsNode a
  pub second : IsNode b
  pub turned : a < b
  pub rises : is_lt (pair_cmp (last_ends front) (a, b)) ≡ true
  pub group : (g : ℕ) × (group_of listed a ≡ Some g) × (group_of listed b ≡ Some g)
  pub first_room : degree a front < 16
  pub second_room : degree b front < 16

ends_in : (listed : List NodeRow) (front : List LinkRow) (a b : ℕ) → (ends listed front).Fits (a, b) → Linked listed front a b
unfolding ends
ends_in listed front a b fits = grind (arith, both, node_in_range, one_group)

ends_fit : (listed : List NodeRow) (front : List LinkRow) (a b : ℕ) → Linked listed front a b → (ends listed front).Fits (a, b)
unfolding ends
ends_fit listed front a b linked =
    let groups = in_one_group (group_of listed a) (group_of listed b) linked.group.0 linked.group.1 linked.group.2 in (
      ((node_fits a linked.first, grind (arith, nat_tests, linked.rises)), (node_fits b linked.second, grind (arith, nat_tests, linked.rises, linked.turned))),
      grind (arith, nat_tests, groups, linked.first_room, linked.second_room),
    )

-- a node that has a group is listed
listed_node : (count : ℕ) (listed : List NodeRow) (u g : ℕ) → AllByRecursion (NodeRowFits count) listed → group_of listed u ≡ Some g → IsNode u
listed_node count [] u g all is = cc
listed_node count (r ∷ rs) u g all is = elim (eqb u r.id) as (λ t. eqb u r.id ≡ t → IsNode u) [
  | true ↦ λ t. let same : u ≡ r.id = grind (arith, nat_tests) in subst IsNode (sym same) (all.0.least, all.0.greatest)
  | false ↦ λ t. listed_node count rs u g all.1 (let other : eq_by_cmp nat_cmp u r.id ≡ false = grind (arith, nat_tests) in ap (λ b. group_in (cond b (Some r) (find nat_cmp u (by_id rs)))) (sym other) ∙ is)
] refl

module _ (version count : ℕ) (small : count < 2 ^ 64) where
  messages_in : (front ms : List Msg) → FitAfter (λ _. message version count) front ms → CarryWithin (farthest version count) ms
  unfolding FitAfter
  messages_in front [] fits = tt
  messages_in front (m ∷ ms) fits = (distance_in version count (carried m) (message_in_range version count m small fits.0), messages_in (front ++ m ∷ []) ms fits.1)

  queue_in : (ms : List Msg) → (queue version count).Fits ms → (length ms ≤ PLACES) × CarryWithin (farthest version count) ms
  unfolding queue
  queue_in ms fits = (how_many_in_range PLACES (length ms) fits.0, messages_in [] ms fits.1)

  each_message : (front ms : List Msg) → CarryWithin (farthest version count) ms → FitAfter (λ _. message version count) front ms
  unfolding FitAfter
  each_message front [] carry = tt
  each_message front (m ∷ ms) carry = (message_fits version count m (distance_fits version count (carried m) small carry.0), each_message (front ++ m ∷ []) ms carry.1)

  queue_fits : (ms : List Msg) → length ms ≤ PLACES → CarryWithin (farthest version count) ms → (queue version count).Fits ms
  unfolding queue
  queue_fits ms few carry = (how_many_fits PLACES (length ms) (omega arith) few, each_message [] ms carry)

module _ (version count : ℕ) (listed : List NodeRow) (small : count < 2 ^ 64) where
  -- the predicate on a link's row, and on those before it
  record LinkedRow (front : List LinkRow) (r : LinkRow) : Type 0 where
    pub range : LinkRowFits count listed r
    pub carried : LanesCarryWithin (farthest version count) r
    pub rises : is_lt (pair_cmp (last_ends front) (r.a, r.b)) ≡ true
    pub first_room : degree r.a front < 16
    pub second_room : degree r.b front < 16

  lane_in : (inc base got : ℕ) (ms : List Msg) → (1 ≤ inc) × (inc ≤ count) → (lane version count).Fits (base, (got, ms)) → LaneInRange count (record { inc = inc; base = base; got = got; queue = ms }) × ((length ms ≤ PLACES) × CarryWithin (farthest version count) ms)
  unfolding lane
  lane_in inc base got ms made fits = (record { made = made.0; inc = made.1; base = at_most_in_range count base fits.0; got = at_most_in_range count got fits.1.0 }, queue_in version count small ms fits.1.1)

  link_row_in : (front : List LinkRow) (r : LinkRow) → (link_row version count listed front).Fits r → LinkedRow front r
  unfolding link_row
  link_row_in front r fits =
      let p = fits.0 in
      let f = fits.1 in
      let linked = ends_in listed front p.0.0 p.0.1 f.0 in
      let made = from_one_to_in_range count p.1.0 f.1.0 in
      let forth = lane_in p.1.0 p.1.1.0.0 p.1.1.0.1.0 p.1.1.0.1.1 made f.1.1.0 in
      let back = lane_in p.1.0 p.1.1.1.0 p.1.1.1.1.0 p.1.1.1.1.1 made f.1.1.1 in
      subst (LinkedRow front) (sym fits.2) (record {
        range = record {
          turned = linked.turned;
          ends = record { group = linked.group.0; first = linked.group.1; second = linked.group.2 };
          forth = forth.0;
          back = back.0;
          forth_short = forth.1.0;
          back_short = back.1.0;
          one_incarnation = refl;
        };
        carried = record { forth = forth.1.1; back = back.1.1 };
        rises = linked.rises;
        first_room = linked.first_room;
        second_room = linked.second_room;
      })

  module _ (all : AllByRecursion (NodeRowFits count) listed) where
    lane_fits : (l : Lane) → LaneInRange count l → length l.queue ≤ PLACES → CarryWithin (farthest version count) l.queue → (lane version count).Fits (l.base, (l.got, l.queue))
    unfolding lane
    lane_fits l range few carry = (at_most_fits count l.base small range.base, (at_most_fits count l.got small range.got, queue_fits version count small l.queue few carry))

    link_row_fits : (front : List LinkRow) (r : LinkRow) → LinkedRow front r → (link_row version count listed front).Fits r
    unfolding link_row
    link_row_fits front r row =
        let range = row.range in
        let ends = range.ends in (
          ((r.a, r.b), (r.forth.inc, ((r.forth.base, (r.forth.got, r.forth.queue)), (r.back.base, (r.back.got, r.back.queue))))),
          (
            ends_fit listed front r.a r.b (record {
              first = listed_node count listed r.a ends.group all ends.first;
              second = listed_node count listed r.b ends.group all ends.second;
              turned = range.turned;
              rises = row.rises;
              group = (ends.group, ends.first, ends.second);
              first_room = row.first_room;
              second_room = row.second_room;
            }),
            (from_one_to_fits count r.forth.inc small range.forth.made range.forth.inc, (lane_fits r.forth range.forth range.forth_short row.carried.forth, lane_fits r.back range.back range.back_short row.carried.back)),
          ),
          (λ i. record { a = r.a; b = r.b; forth = r.forth; back = record { inc = sym range.one_incarnation i; base = r.back.base; got = r.back.got; queue = r.back.queue } }),
        )

  -- a node of the last link has room for one more
  room_more : (front : List LinkRow) (r : LinkRow) → LinkedRow front r → ((u : ℕ) → degree u front ≤ 16) → (u : ℕ) → degree u (front ++ r ∷ []) ≤ 16
  room_more front r row few u = grind (arith, degree-push)

  record LinkedRows (front rs : List LinkRow) : Type 0 where
    pub ranges : AllByRecursion (LinkRowFits count listed) rs
    pub carried : AllByRecursion (LanesCarryWithin (farthest version count)) rs
    pub rise : RiseFrom link_key pair_cmp_total (last_ends front) rs
    pub degrees : (u : ℕ) → degree u (front ++ rs) ≤ 16

  links_in : (front rs : List LinkRow) → ((u : ℕ) → degree u front ≤ 16) → FitAfter (link_row version count listed) front rs → LinkedRows front rs
  unfolding FitAfter
  links_in front [] few fits = record { ranges = tt; carried = tt; rise = tt; degrees = λ u. rw (append-nil front) (few u) }
  links_in front (r ∷ rs) few fits =
      let row = link_row_in front r fits.0 in
      let rest = links_in (front ++ r ∷ []) rs (room_more front r row few) fits.1 in
      record {
        ranges = (row.range, rest.ranges);
        carried = (row.carried, rest.carried);
        rise = (row.rises, rw (sym (last_push link_key (0, 0) front r)) rest.rise);
        degrees = λ u. rw (sym (append_assoc front (r ∷ []) rs)) (rest.degrees u);
      }

  module _ (all : AllByRecursion (NodeRowFits count) listed) where
    -- an end of a link after has one link fewer before it
    room_before : (front rs : List LinkRow) (r : LinkRow) (u : ℕ) → is_end u r ≡ true → degree u (front ++ r ∷ rs) ≤ 16 → degree u front < 16
    room_before front rs r u is few = grind (arith, nat_tests, is, degree-append u front (r ∷ rs), few)

    links_fit : (front rs : List LinkRow) → LinkedRows front rs → FitAfter (link_row version count listed) front rs
    unfolding FitAfter
    links_fit front [] rows = tt
    links_fit front (r ∷ rs) rows = (
      link_row_fits all front r (record {
        range = rows.ranges.0;
        carried = rows.carried.0;
        rises = rows.rise.0;
        first_room = room_before front rs r r.a (grind (arith, nat_tests)) (rows.degrees r.a);
        second_room = room_before front rs r r.b (grind (arith, nat_tests)) (rows.degrees r.b);
      }),
      links_fit (front ++ r ∷ []) rs (record {
        ranges = rows.ranges.1;
        carried = rows.carried.1;
        rise = rw (last_push link_key (0, 0) front r) rows.rise.1;
        degrees = λ u. rw (append_assoc front (r ∷ []) rs) (rows.degrees u);
      }),
    )

-- ---- clients

abbrev client_key : ClientRow → ℕ
client_key r = r.client

abbrev ClientRowFits : ℕ → ClientRow → Type 0
ClientRowFits count r = SessionInRange count r.client r.session

kind_fits : (x : Command) (k : Kind) → answers x k ≡ true → (kind x).Fits k
unfolding kind
kind_fits x kinds.Done is = ((0, (omega arith, refl), refl), is)
kind_fits x kinds.Started is = ((1, (omega arith, refl), refl), is)
kind_fits x kinds.Finished is = ((2, (omega arith, refl), refl), is)
kind_fits x kinds.Joined is = ((3, (omega arith, refl), refl), is)
kind_fits (Add u g) kinds.Taken is = cc
kind_fits (Remove u) kinds.Taken is = cc
kind_fits (Join a b) kinds.Taken is = cc
kind_fits (Drop a b) kinds.Taken is = cc
kind_fits (Reset u) kinds.Taken is = cc
kind_fits (Confirm u e) kinds.Taken is = cc
kind_fits (Add u g) kinds.Cleared is = cc
kind_fits (Remove u) kinds.Cleared is = cc
kind_fits (Join a b) kinds.Cleared is = cc
kind_fits (Drop a b) kinds.Cleared is = cc
kind_fits (Reset u) kinds.Cleared is = cc
kind_fits (Confirm u e) kinds.Cleared is = cc

module _ (count : ℕ) where
  client_row_in : (front : List ClientRow) (r : ClientRow) → (client_row count front).Fits r → ClientRowFits count r × (is_lt (nat_cmp (last_by client_key 0 front) r.client) ≡ true)
  unfolding client_row
  client_row_in front r fits = grind (arith, client_in_range, from_one_to_in_range, command_in_range, kind_in_range)

  client_row_fits : count < 2 ^ 64 → (front : List ClientRow) (r : ClientRow) → ClientRowFits count r → is_lt (nat_cmp (last_by client_key 0 front) r.client) ≡ true → (client_row count front).Fits r
  unfolding client_row
  client_row_fits small front r range above = (
    (r.client, (r.session.number, (r.session.command, (r.session.reply.step, r.session.reply.kind)))),
    (
      (client_fits r.client range.least range.greatest, grind (arith, nat_tests, above)),
      (from_one_to_fits count r.session.number small range.first range.last, (command_fits r.session.command range.ordered, (from_one_to_fits count r.session.reply.step small range.replied range.replied_by, kind_fits r.session.command r.session.reply.kind range.answered))),
    ),
    refl,
  )

-- ---- worlds

-- what each row fulfils and what each fulfils beside it
pub all_both : {A : Type 0} (P Q : A → Type 0) (xs : List A) → AllByRecursion P xs → AllByRecursion Q xs → AllByRecursion (λ x. P x × Q x) xs
all_both P Q [] ps qs = tt
all_both P Q (x ∷ xs) ps qs = ((ps.0, qs.0), all_both P Q xs ps.1 qs.1)

-- the ends of a link are numbered from 1
above_none : (count : ℕ) (listed : List NodeRow) (rs : List LinkRow) → AllByRecursion (NodeRowFits count) listed → AllByRecursion (LinkRowFits count listed) rs → below_all pair_cmp (0, 0) (by_ends rs) ≡ true
above_none count listed [] known all = refl
above_none count listed (r ∷ rs) known all = grind (arith, nat_tests, listed_node count listed r.a all.0.ends.group known all.0.ends.first, above_none count listed rs known all.1, listed_node)

-- rows that are spelled in a version have it
pub version_fits : (version : ℕ) (r : Rows) → (world version).Fits r → r.version ≡ version
unfolding world
version_fits version r fits = ap (λ (x : Rows). x.version) fits.2

pub rows_in : (version : ℕ) (r : Rows) → is_version version ≡ true → (world version).Fits r → RowsFit r
unfolding world nodes links clients
rows_in version r known_version fits =
    let p = fits.0 in
    let f = fits.1 in
    let within = at_most_in_range (2 ^ 40) p.0 f.0 in
    let small : p.0 < 2 ^ 64 = omega (arith, within) in
    let listed = all_in node_key (node_row version p.0) (IsRow version p.0) (node_row_in version p.0) [] p.1.0 f.1.0.1 in
    let linked = links_in version p.0 p.1.0 small [] p.1.1.0 (λ u. omega arith) f.1.1.0.1 in
    let known = all_in client_key (client_row p.0) (ClientRowFits p.0) (client_row_in p.0) [] p.1.1.1 f.1.1.1.1 in
    subst RowsFit (sym fits.2) (record {
      first = grind (arith, nat_tests, known_version);
      last = grind (arith, nat_tests, known_version);
      count = within;
      nodes_rise = (sorted_of_rise node_key nat_cmp_total 0 p.1.0 listed.1).1;
      nodes = all_weaker (IsRow version p.0) (NodeRowFits p.0) (λ x both_ranges. both_ranges.0) p.1.0 listed.0;
      distances = all_weaker (IsRow version p.0) (RowIsDistant version p.0) (λ x both_ranges. both_ranges.1) p.1.0 listed.0;
      links_rise = (sorted_of_rise link_key pair_cmp_total (0, 0) p.1.1.0 linked.rise).1;
      links = linked.ranges;
      carried = linked.carried;
      degrees = linked.degrees;
      most_links = how_many_in_range 128 (length p.1.1.0) f.1.1.0.0;
      clients_rise = (sorted_of_rise client_key nat_cmp_total 0 p.1.1.1 known.1).1;
      clients = known.0;
    })

module _ (r : Rows) (fit : RowsFit r) where
  nodes_above : below_all nat_cmp 0 (by_id r.nodes) ≡ true
  nodes_above = above_zero node_key r.nodes (all_weaker (NodeRowFits r.count) (λ x. 1 ≤ x.id) (λ x range. range.least) r.nodes fit.nodes)

  clients_above : below_all nat_cmp 0 (by_client r.clients) ≡ true
  clients_above = above_zero client_key r.clients (all_weaker (ClientRowFits r.count) (λ x. 1 ≤ x.client) (λ x range. range.least) r.clients fit.clients)

  -- 64 nodes at most
  pub few_nodes : length r.nodes ≤ 64
  few_nodes = omega (arith, few_keys node_key 0 64 r.nodes (omega arith) nodes_above fit.nodes_rise (all_weaker (NodeRowFits r.count) (λ x. x.id ≤ 64) (λ x range. range.greatest) r.nodes fit.nodes))

  -- 16 clients at most
  pub few_clients : length r.clients ≤ 16
  few_clients = omega (arith, few_keys client_key 0 16 r.clients (omega arith) clients_above fit.clients_rise (all_weaker (ClientRowFits r.count) (λ x. x.client ≤ 16) (λ x range. range.greatest) r.clients fit.clients))

  pub rows_fit : (world r.version).Fits r
  unfolding world nodes links clients
  rows_fit =
      let small : r.count < 2 ^ 64 = omega (arith, fit.count) in
      let linked : LinkedRows r.version r.count r.nodes small [] r.links = record {
        ranges = fit.links;
        carried = fit.carried;
        rise = rise_of_sorted link_key pair_cmp_total (0, 0) r.links (above_none r.count r.nodes r.links fit.nodes fit.links) fit.links_rise;
        degrees = fit.degrees;
      } in (
        (r.count, (r.nodes, (r.links, r.clients))),
        (
          at_most_fits (2 ^ 40) r.count (omega arith) fit.count,
          (
            (how_many_fits 64 (length r.nodes) (omega arith) few_nodes, all_fit node_key (node_row r.version r.count) (IsRow r.version r.count) (node_row_fits r.version r.count small) [] r.nodes (all_both (NodeRowFits r.count) (RowIsDistant r.version r.count) r.nodes fit.nodes fit.distances) (rise_of_sorted node_key nat_cmp_total 0 r.nodes nodes_above fit.nodes_rise)),
            (
              (how_many_fits 128 (length r.links) (omega arith) fit.most_links, links_fit r.version r.count r.nodes small fit.nodes [] r.links linked),
              (how_many_fits 16 (length r.clients) (omega arith) few_clients, all_fit client_key (client_row r.count) (ClientRowFits r.count) (client_row_fits r.count small) [] r.clients fit.clients (rise_of_sorted client_key nat_cmp_total 0 r.clients clients_above fit.clients_rise)),
            ),
          ),
        ),
        refl,
      )
