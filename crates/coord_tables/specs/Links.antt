-- A table of links. The key of a link is its two ends, the lesser first. The value is the two lanes of the
-- link, one for each direction.
use Rattle.std.specs.Prelude.{◌≡◌, ℕ, ◌<◌, ◌^◌, ◌==◌, ◌&&◌, nat_lt, Bool, true, List, [], ◌∷◌, map, length, slice_index, Option, if◌then◌else◌}
use Rattle.std.proofs.Common.{refl}
use Rattle.std.specs.Coded.{Coded, code_by, coded×, coded_ℕ}
use Rattle.std.specs.FinMap.Entries.{is_sorted}
use Rattle.std.specs.List.{AllByRecursion}
use Rattle.std.specs.Option.{option_map}
use Rattle.coord_types.specs.Table.{Table, change, code, empty, entries, from_sorted, get, has, insert, remove}
use Rattle.coord_link.specs.LaneMachine.{Lane, lane_code}
use Rattle.coord_tables.specs.declared.links.LinkRow.{LinkRow}
use Rattle.coord_tables.specs.Pairs.{pair_cmp, pair_cmp_total}
use Rattle.coord_tables.specs.Places.{IsIndexOf, noted_place, pair_place}

-- the lane from the lesser end to the greater end, and the lane back
pub record Lanes : Type 0 where
  pub forth : Lane
  pub back : Lane

abbrev pub Links : Type 0
Links = Table pair_cmp_total Lanes

-- two nodes, the lesser first
abbrev pub ends : ℕ → ℕ → ℕ × ℕ
ends x y = if nat_lt x y then (x, y) else (y, x)

-- the index that `places` records for the link of x and y
abbrev pub link_place : List ℕ → ℕ → ℕ → Option ℕ
link_place places x y = noted_place (slice_index places (pair_place (ends x y).0 (ends x y).1))

-- the lane from x to y, one of the two lanes of the link of x and y
abbrev pub toward : ℕ → ℕ → Lanes → Lane
toward x y l = if nat_lt x y then l.forth else l.back

-- the lane from x to y, or None if the two nodes are not linked
unfoldable pub lane_at : Links → ℕ → ℕ → Option Lane
lane_at t x y = option_map (toward x y) (get t (ends x y))

-- the key of each link has its lesser end first
abbrev pub Turned : Links → Type 0
Turned t = (a b : ℕ) → has t (a, b) ≡ true → a < b

-- replaces each lane by a function of the lane and its two ends
abbrev pub change_lanes : (ℕ × ℕ → Lane → Lane) → Links → Links
change_lanes f t = change (λ k l. record { forth = f k l.forth; back = f (k.1, k.0) l.back }) t

abbrev pub is_lane : ℕ × ℕ → ℕ → ℕ → Bool
is_lane k x y = (k.0 == x) && (k.1 == y)

-- applies a function to the lane from x to y
abbrev pub change_lane : Links → ℕ → ℕ → (Lane → Lane) → Links
change_lane t x y f = change_lanes (λ k l. if is_lane k x y then f l else l) t

-- links two nodes, with the same lane in each direction
abbrev pub joined : Links → ℕ → ℕ → Lane → Links
joined t x y l = insert t (ends x y) (record { forth = l; back = l })

-- removes the link of two nodes
abbrev pub parted : Links → ℕ → ℕ → Links
parted t x y = remove t (ends x y)

-- adds both lanes of each link to a table of lanes
abbrev pub with_lanes : Table pair_cmp_total Lane → List ((ℕ × ℕ) × Lanes) → Table pair_cmp_total Lane
with_lanes lanes [] = lanes
with_lanes lanes (e ∷ es) = with_lanes (insert (insert lanes e.0 e.1.forth) (e.0.1, e.0.0) e.1.back) es

-- all lanes, in ascending order of their senders and then of their receivers
abbrev pub lanes_in_order : Links → List ((ℕ × ℕ) × Lane)
lanes_in_order t = entries (with_lanes empty (entries t))

-- the row of a link; `link_entry` converts it back
abbrev pub link_row : (ℕ × ℕ) × Lanes → LinkRow
link_row e = record { a = e.0.0; b = e.0.1; forth = e.1.forth; back = e.1.back }

abbrev pub link_entry : LinkRow → (ℕ × ℕ) × Lanes
link_entry r = ((r.a, r.b), record { forth = r.forth; back = r.back })

-- the row in which the lane from x to y is this lane
abbrev pub row_with : LinkRow → ℕ → ℕ → Lane → LinkRow
row_with r x y m = if nat_lt x y then record r { forth = m } else record r { back = m }

-- the rows of all links, in ascending order
abbrev pub link_rows : Links → List LinkRow
link_rows t = map link_row (entries t)

-- the table with these rows, which must be in ascending order
abbrev pub links_of : List LinkRow → Links
links_of rows = from_sorted (map link_entry rows)

-- the rows are in ascending order, and each row has its lesser end first
pub record LinksRise (rows : List LinkRow) : Type 0 where
  pub turned : AllByRecursion (λ r. r.a < r.b) rows
  pub rise : is_sorted pair_cmp (map link_entry rows) ≡ true

-- the two lanes of a link are stored as a pair
abbrev pub lanes_code : Coded Lanes
lanes_code = code_by (Lane × Lane) (coded× lane_code lane_code) (λ l. (l.forth, l.back)) (λ p. record { forth = p.0; back = p.1 }) (λ _. refl)

abbrev pub links_code : Coded Links
links_code = code (coded× coded_ℕ coded_ℕ) lanes_code

-- there are at most 255 rows, in ascending order, and `places` is their index
pub record AreIndexed (rows : List LinkRow) (places : List ℕ) : Type 0 where
  pub rise : LinksRise rows
  pub few : length rows < 2 ^ 8
  pub index : IsIndexOf places (map link_entry rows)
