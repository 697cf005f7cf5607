-- The world that fitting rows make is in its ranges, and has those rows.
use Rattle.std.proofs.Common.{◌≡◌, ℕ, ◌≤◌, true, ◌||◌, List, [], ◌∷◌, Option, Some, None, map, cond, length, refl, sym, ap, ◌∙◌, arith, is_some, nat_cmp, nat_lt}
use Rattle.std.specs.Cmp.{nat_cmp_total}
use Rattle.std.specs.List.{AllByRecursion}
use Rattle.std.specs.FinMap.Entries.{find, is_sorted}
use Rattle.coord_types.specs.Facade.{IsMaskable, NodeState, contains, no_node}
use Rattle.coord_types.specs.NodeSet as set
use Rattle.coord_types.specs.Table.{get}
use Rattle.coord_types.proofs.Sets.{contains-empty, len-empty}
use Rattle.coord_types.proofs.Tables.{entries-from_sorted, get-from_sorted, option_map}
use Rattle.coord_link.specs.declared.lane.TheConstants.{PLACES}
use Rattle.coord_link.specs.LaneMachine.{Lane}
use Rattle.coord_tables.specs.Links.{LinksRise, ends, link_entry}
use Rattle.coord_tables.specs.declared.links.LinkRow.{LinkRow}
use Rattle.coord_world.specs.code.Assembly.{assembled, client_entry, node_entry, state_of}
use Rattle.coord_world.specs.Facade.{CarryWithin, InRange, IsDistant, IsNode, LaneInRange, LanesCarryWithin, LinkRowFits, NodeInRange, NodeRowFits, RowIsDistant, Rows, RowsFit, SessionInRange, by_client, by_ends, by_id, client_row, farthest, group_in, group_of, is_linked, lane_at, node_row, pair_cmp, pair_cmp_total, rows_of, state, state_or_none}
use Rattle.coord_world.specs.declared.rows.parts.ClientRow.{ClientRow}
use Rattle.coord_world.specs.declared.rows.parts.NodeRow.{NodeRow}
use Rattle.coord_tables.proofs.Cases.{by_test, some_value}
use Rattle.coord_tables.proofs.IndexedLinks.{lanes_in}
use Rattle.coord_tables.proofs.KeyedLists.{all_weaker, each_value, find-values, found, sorted-keys}
use Rattle.coord_tables.proofs.LinkLanes.{each_lane, lane-linked, links-len, one_inc, rows_come_back, turned_of}
use Rattle.coord_tables.proofs.Found.{same_number, same_pair}
use Rattle.coord_world.proofs.listings.Near.{IsTurned, contains-near_with, len-near_with, row_between}
use Rattle.coord_world.proofs.legal.SoundView.{at_each}

module _ (rows : Rows) (fit : RowsFit rows) where
  -- entries of nodes and clients rise as their rows do
  pub nodes_sorted : is_sorted nat_cmp (map (node_entry rows.links) rows.nodes) ≡ true
  nodes_sorted = sorted-keys nat_cmp (node_entry rows.links) (λ r. (r.id, r)) (λ _. refl) rows.nodes ∙ fit.nodes_rise

  pub clients_sorted : is_sorted nat_cmp (map client_entry rows.clients) ≡ true
  clients_sorted = sorted-keys nat_cmp client_entry (λ r. (r.client, r)) (λ _. refl) rows.clients ∙ fit.clients_rise

  -- the listed rows
  abbrev row_at : ℕ → Option NodeRow
  row_at u = find nat_cmp u (by_id rows.nodes)

  -- the link that is listed
  abbrev link_row_at : ℕ × ℕ → Option LinkRow
  link_row_at q = find pair_cmp q (by_ends rows.links)

  turned : AllByRecursion IsTurned rows.links
  turned = all_weaker (LinkRowFits rows.count rows.nodes) IsTurned (λ r fits. fits.turned) rows.links fit.links

  pub links_in_order : LinksRise rows.links
  links_in_order = record { turned = turned; rise = sorted-keys pair_cmp link_entry (λ r. ((r.a, r.b), r)) (λ _. refl) rows.links ∙ fit.links_rise }

  -- what the world has
  get-node : (u : ℕ) → get (assembled rows).nodes u ≡ option_map (state_of rows.links) (find nat_cmp u (by_id rows.nodes))
  get-node u = get-from_sorted nat_cmp_total (map (node_entry rows.links) rows.nodes) u nodes_sorted ∙ find-values nat_cmp (λ r. r.id) (state_of rows.links) u rows.nodes

  get-link : (q : ℕ × ℕ) → get (assembled rows).links q ≡ option_map lanes_in (link_row_at q)
  get-link q = get-from_sorted pair_cmp_total (map link_entry rows.links) q links_in_order.rise ∙ find-values pair_cmp (λ r. (r.a, r.b)) lanes_in q rows.links

  get-client : (c : ℕ) → get (assembled rows).sessions c ≡ option_map (λ r. r.session) (find nat_cmp c (by_client rows.clients))
  get-client c = get-from_sorted nat_cmp_total (map client_entry rows.clients) c clients_sorted ∙ find-values nat_cmp (λ r. r.client) (λ r. r.session) c rows.clients

  node_fits : (u : ℕ) (s : NodeRow) → row_at u ≡ Some s → NodeRowFits rows.count s × (u ≡ s.id)
  node_fits u s there = found nat_cmp (λ r. r.id) same_number (NodeRowFits rows.count) u rows.nodes s fit.nodes there

  pub ids_are_nodes : AllByRecursion (λ r. IsNode r.id) rows.nodes
  ids_are_nodes = all_weaker (NodeRowFits rows.count) (λ r. IsNode r.id) (λ r fits. (fits.least, fits.greatest)) rows.nodes fit.nodes

  link_fits : (q : ℕ × ℕ) (r : LinkRow) → link_row_at q ≡ Some r → LinkRowFits rows.count rows.nodes r × (q ≡ (r.a, r.b))
  link_fits q r there = found pair_cmp (λ r. (r.a, r.b)) same_pair (LinkRowFits rows.count rows.nodes) q rows.links r fit.links there

  -- a predicate on the lanes of each row holds for each lane
  lane_of_row : (P : Lane → Type 0) → ((q : ℕ × ℕ) (r : LinkRow) → link_row_at q ≡ Some r → P r.forth × P r.back) → (x y : ℕ) (l : Lane) → lane_at (assembled rows).links x y ≡ Some l → P l
  lane_of_row P each x y l is = each_lane P (assembled rows).links (λ k z there. each_value lanes_in (λ z. P z.forth × P z.back) (link_row_at k) (each k) z (sym (get-link k) ∙ there)) x y l is

  client_fits : (c : ℕ) (s : ClientRow) → find nat_cmp c (by_client rows.clients) ≡ Some s → SessionInRange rows.count s.client s.session × (c ≡ s.client)
  client_fits c s there = found nat_cmp (λ r. r.client) same_number (λ r. SessionInRange rows.count r.client r.session) c rows.clients s fit.clients there

  -- a predicate on the node of each row holds for each node
  each_node : (P : NodeState → Type 0) → P (state_or_none None) → ((s : NodeRow) → NodeRowFits rows.count s → P (state_of rows.links s)) → (u : ℕ) → P (state (assembled rows) u)
  each_node P none some = at_each (assembled rows) P none (λ u r is. each_value (state_of rows.links) P (row_at u) (λ s there. some s (node_fits u s there).0) r (sym (get-node u) ∙ is))

  -- both are listed, in one group
  abbrev Listed : ℕ → ℕ → Type 0
  Listed u v = (g : ℕ) × ((group_of rows.nodes u ≡ Some g) × (group_of rows.nodes v ≡ Some g))

  -- the ends of each lane are listed
  both_listed : (u v : ℕ) → is_some (row_between u v rows.links) ≡ true → Listed u v
  both_listed u v is =
      let row = some_value (row_between u v rows.links) is in
      let at = link_fits (ends u v) row.0 row.1 in
      by_test (nat_lt u v) (λ c. ◌≡◌ {A = ℕ × ℕ} (cond c (u, v) (v, u)) (row.0.a, row.0.b) → Listed u v)
      (λ _ same. (at.0.ends.group, (ap (λ (q : ℕ × ℕ). group_of rows.nodes q.0) same ∙ at.0.ends.first, ap (λ (q : ℕ × ℕ). group_of rows.nodes q.1) same ∙ at.0.ends.second)))
      (λ _ same. (at.0.ends.group, (ap (λ (q : ℕ × ℕ). group_of rows.nodes q.1) same ∙ at.0.ends.second, ap (λ (q : ℕ × ℕ). group_of rows.nodes q.0) same ∙ at.0.ends.first))) at.1

  is_linked-lane : (u v : ℕ) → is_linked (assembled rows) u v ≡ is_some (row_between u v rows.links)
  is_linked-lane u v = lane-linked (assembled rows).links u v ∙ ap is_some (get-link (ends u v)) ∙ same_there (row_between u v rows.links)
    where
      same_there : (o : Option LinkRow) → is_some (option_map lanes_in o) ≡ is_some o
      same_there None = refl
      same_there (Some r) = refl

  -- a node that is listed in a group
  known : (o : Option NodeRow) (g : ℕ) → group_in o ≡ Some g → is_some (option_map (state_of rows.links) o) ≡ true
  known None g is = cc
  known (Some s) g is = refl

  group_known : (o : Option NodeRow) (g : ℕ) → group_in o ≡ Some g → (state_or_none (option_map (state_of rows.links) o)).group ≡ g
  group_known None g is = cc
  group_known (Some s) g is = cc

  -- the neighbours of a node are those that it has lanes to
  near_lanes : (u v : ℕ) (o : Option NodeRow) → row_at u ≡ o → is_some (row_between u v rows.links) ≡ contains (state_or_none (option_map (state_of rows.links) o)).neighbours v
  near_lanes u v None none = by_test (is_some (row_between u v rows.links)) (λ t. is_some (row_between u v rows.links) ≡ t → t ≡ contains no_node.neighbours v)
      (λ _ is. let listed = both_listed u v is in let unknown = ap group_in none in cc) (λ _ _. sym (contains-empty v)) refl
  near_lanes u v (Some s) there =
      let same = (node_fits u s there).1 in
      ap (λ k. is_some (row_between k v rows.links)) same ∙ ap (λ b. b || is_some (row_between s.id v rows.links)) (sym (contains-empty v)) ∙ sym (contains-near_with s.id v set.empty rows.links turned)

  -- within its ranges
  pub assembled_in_range : InRange (assembled rows)
  assembled_in_range = record {
    first = fit.first;
    last = fit.last;
    distances = λ u r is. each_value (state_of rows.links) (IsDistant rows.version rows.count) (row_at u) (λ s there.
        let far = (found nat_cmp (λ r. r.id) same_number (RowIsDistant rows.version rows.count) u rows.nodes s fit.distances there).0 in
        record { within = far.within; ready = far.ready })
        r (sym (get-node u) ∙ is);
    carried = lane_of_row (λ k. CarryWithin (farthest rows.version rows.count) k.queue) (λ q r there.
        let near = (found pair_cmp (λ r. (r.a, r.b)) same_pair (LanesCarryWithin (farthest rows.version rows.count)) q rows.links r fit.carried there).0 in (near.forth, near.back));
    count = fit.count;
    nodes = λ u r is. each_value (state_of rows.links) (NodeInRange rows.count u) (row_at u) (λ s there.
        let at = node_fits u s there in
        record {
          least = omega (arith, at.0.least, at.1);
          greatest = omega (arith, at.0.greatest, at.1);
          group_least = at.0.group_least;
          group_greatest = at.0.group_greatest;
          epoch = at.0.epoch;
          confirmed = at.0.confirmed;
          degree = omega (arith, len-near_with s.id set.empty rows.links, len-empty, fit.degrees s.id);
        })
        r (sym (get-node u) ∙ is);
    lanes = lane_of_row (LaneInRange rows.count) (λ q r there. let fits = (link_fits q r there).0 in (fits.forth, fits.back));
    short = lane_of_row (λ k. length k.queue ≤ PLACES) (λ q r there. let fits = (link_fits q r there).0 in (fits.forth_short, fits.back_short));
    awaited = each_node (λ r. IsMaskable r.pend) (λ k has. let none = contains-empty k in cc) (λ s fits. fits.pend);
    parents = each_node (λ r. (p : ℕ) → r.parent ≡ Some p → IsNode p) (λ p is. cc) (λ s fits. fits.parent);
    sessions = λ c s is. each_value (λ r. r.session) (SessionInRange rows.count c) (find nat_cmp c (by_client rows.clients)) (λ r there.
        let at = client_fits c r there in
        rw at.1 at.0)
        s (sym (get-client c) ∙ is);
    links = omega (arith, links-len rows.links links_in_order, fit.most_links);
    linked = λ u v. is_linked-lane u v ∙ near_lanes u v (row_at u) refl ∙ ap (λ o. contains (state_or_none o).neighbours v) (sym (get-node u));
    turned = turned_of rows.links links_in_order;
    ends = λ u v is. let listed = both_listed u v (sym (is_linked-lane u v) ∙ is) in ap is_some (get-node u) ∙ known (row_at u) listed.0 listed.1.0;
    one_group = λ u v is.
        let listed = both_listed u v (sym (is_linked-lane u v) ∙ is) in
        ap (λ o. (state_or_none o).group) (get-node u) ∙ group_known (row_at u) listed.0 listed.1.0 ∙ sym (group_known (row_at v) listed.0 listed.1.1) ∙ ap (λ o. (state_or_none o).group) (sym (get-node v));
    one_incarnation = one_inc (assembled rows).links (λ q z there. each_value lanes_in (λ z. z.forth.inc ≡ z.back.inc) (link_row_at q) (λ r is. (link_fits q r is).0.one_incarnation) z (sym (get-link q) ∙ there));
  }

  -- the rows of nodes and clients come back
  same_nodes_listed : (rs : List NodeRow) → map node_row (map (node_entry rows.links) rs) ≡ rs
  same_nodes_listed [] = refl
  same_nodes_listed (r ∷ rs) = ap (λ l. r ∷ l) (same_nodes_listed rs)

  same_clients_listed : (rs : List ClientRow) → map client_row (map client_entry rs) ≡ rs
  same_clients_listed [] = refl
  same_clients_listed (r ∷ rs) = ap (λ l. r ∷ l) (same_clients_listed rs)

  -- the rows are those that it was made from
  pub rows_assembled : rows_of (assembled rows) ≡ rows
  rows_assembled =
      let nodes = ap (map node_row) (entries-from_sorted nat_cmp_total (map (node_entry rows.links) rows.nodes) nodes_sorted) ∙ same_nodes_listed rows.nodes in
      let clients = ap (map client_row) (entries-from_sorted nat_cmp_total (map client_entry rows.clients) clients_sorted) ∙ same_clients_listed rows.clients in
      λ i. record { version = rows.version; count = rows.count; nodes = nodes i; links = rows_come_back rows.links links_in_order i; clients = clients i }
