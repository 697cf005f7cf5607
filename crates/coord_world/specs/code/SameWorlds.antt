-- An equality test of worlds that computes: two worlds are the same if their stored forms are the same. The laws of a
-- comparison need such a test; the code compares the rows of the tables.
use Rattle.std.specs.Prelude.{◌≡◌, ◌==◌, ◌&&◌, Bool, true, false}
use Rattle.std.proofs.Common.{refl, ap, ap₂, subst}
use Rattle.std.specs.Bool.{Decides}
use Rattle.std.specs.Cmp.{unsigned_Decides}
use base.Stored.{Gv, gnil, gnum, gcons}
use Rattle.coord_world.specs.protocol.NumberedWorld.{World, world_code}

-- whether both stored values have the same form and the same numbers
unfoldable pub same_stored : Gv → Gv → Bool
same_stored gnil gnil = true
same_stored (gnum m) (gnum n) = m == n
same_stored (gcons a b) (gcons c d) = same_stored a c && same_stored b d
same_stored x y = false

unfoldable pub same_world : World → World → Bool
same_world v w = same_stored (world_code.code v) (world_code.code w)

first_holds : (a b : Bool) → (a && b) ≡ true → a ≡ true
first_holds true b e = refl
first_holds false b e = e

second_holds : (a b : Bool) → (a && b) ≡ true → b ≡ true
second_holds true b e = e
second_holds false b e = cc e

stored_is : (x y : Gv) → same_stored x y ≡ true → x ≡ y
unfolding same_stored
stored_is gnil gnil e = refl
stored_is (gnum m) (gnum n) e = ap gnum ((unsigned_Decides m n).0 e)
stored_is (gcons a b) (gcons c d) e =
    ap₂ gcons (stored_is a c (first_holds (same_stored a c) (same_stored b d) e)) (stored_is b d (second_holds (same_stored a c) (same_stored b d) e))
stored_is gnil (gnum n) e = cc e
stored_is gnil (gcons c d) e = cc e
stored_is (gnum m) gnil e = cc e
stored_is (gnum m) (gcons c d) e = cc e
stored_is (gcons a b) gnil e = cc e
stored_is (gcons a b) (gnum n) e = cc e

stored_self : (x : Gv) → same_stored x x ≡ true
unfolding same_stored
stored_self gnil = refl
stored_self (gnum m) = (unsigned_Decides m m).1 refl
stored_self (gcons a b) = ap₂ (λ p q. p && q) (stored_self a) (stored_self b)

-- the test returns true if and only if the worlds are equal
pub same_world_decides : (v w : World) → Decides (same_world v w) (v ≡ w)
unfolding same_world
same_world_decides v w = (
  λ e. world_code.inj v w (stored_is (world_code.code v) (world_code.code w) e),
  λ e. subst (λ x. same_stored (world_code.code v) (world_code.code x) ≡ true) e (stored_self (world_code.code v)),
)
