-- What a resource's gate keeps out, and lets in.
use Rattle.std.proofs.Common.{◌≡◌, ℕ, ◌<◌, ◌≤◌, ◌⊎◌, ◌&&◌, ◌||◌, nat_lt, Bool, true, false, List, [], ◌∷◌, refl, sym, ap, subst, ◌∙◌, arith, inl, inr, if◌then◌else◌}
use Rattle.std.specs.List.{AllByRecursion}
use Rattle.std.specs.Str.{bytes_eq}
use Rattle.std.proofs.lemmas.Bool.Decides.{nat_tests}
use Rattle.std.proofs.lemmas.Slice.Eq.{bytes_eq-Decides}
use Rattle.coord_member.specs.Fence.{Fence, Resource, new_resource, is_own, accepts, held_by, after_fence, after_fences, IsNoNewer, LaterIsGreater, NoStartReturns, NewestIsAccepted}

-- ---- tests

more_of : (a b : ℕ) → b ≤ (if nat_lt a b then b else a)
more_of a b = of (nat_lt a b) refl
  where
    of : (c : Bool) → nat_lt a b ≡ c → b ≤ (if c then b else a)
    of true less = omega arith
    of false more = grind (arith, nat_tests, more)

more_than : (a b : ℕ) → a ≤ (if nat_lt a b then b else a)
more_than a b = of (nat_lt a b) refl
  where
    of : (c : Bool) → nat_lt a b ≡ c → a ≤ (if c then b else a)
    of true less = grind (arith, nat_tests, less)
    of false more = omega arith

both_below : (a b n : ℕ) → a < n → b < n → (if nat_lt a b then b else a) < n
both_below a b n first second = of (nat_lt a b)
  where
    of : (c : Bool) → (if c then b else a) < n
    of true = second
    of false = first

or_and : (b c d : Bool) → (b || (c && d)) ≡ true → (b ≡ true) ⊎ ((c ≡ true) × (d ≡ true))
or_and true c d e = inl refl
or_and false true true e = inr (refl, refl)
or_and false true false e = absurd (cc)
or_and false false d e = absurd (cc)

less : (a b : ℕ) → nat_lt a b ≡ true → a < b
less a b e = grind (arith, nat_tests, e)

not_both : (b : Bool) → b ≡ true → b ≡ false → ⊥
not_both true e f = absurd (cc)
not_both false e f = absurd (cc)

-- ---- tags

same : (xs ys : List ℕ) → bytes_eq xs ys ≡ true → xs ≡ ys
same xs ys = (bytes_eq-Decides xs ys).0

are_same : (xs ys : List ℕ) → xs ≡ ys → bytes_eq xs ys ≡ true
are_same xs ys = (bytes_eq-Decides xs ys).1

differ : (xs ys : List ℕ) → bytes_eq xs ys ≡ false → xs ≡ ys → ⊥
differ xs ys e is = not_both (bytes_eq xs ys) (are_same xs ys is) e

-- ---- one fence

why_accepted : (r : Resource) (f : Fence) → accepts r f ≡ true → (r.gate.count < f.count) ⊎ ((r.tag ≡ f.tag) × (r.gate.floor < f.count))
why_accepted r f e =
    elim (or_and (nat_lt r.gate.count f.count) (is_own r f) (nat_lt r.gate.floor f.count) e) [
      | inl more ↦ inl (less r.gate.count f.count more)
      | inr own ↦ inr (same r.tag f.tag own.0, less r.gate.floor f.count own.1)
    ]

when_accepted : (r : Resource) (f : Fence) → accepts r f ≡ true → after_fence r f ≡ held_by (is_own r f) r f
when_accepted r f e = ap (λ b. if b then held_by (is_own r f) r f else r) e

when_refused : (r : Resource) (f : Fence) → accepts r f ≡ false → after_fence r f ≡ r
when_refused r f e = ap (λ b. if b then held_by (is_own r f) r f else r) e

-- ---- rejected fences

-- this fence was accepted
record Knows (g : Fence) (r : Resource) : Type 0 where
  most : g.count ≤ r.gate.count
  last : (r.tag ≡ g.tag) ⊎ (g.count ≤ r.gate.floor)

knows_it : (r : Resource) (g : Fence) → accepts r g ≡ true → Knows g (after_fence r g)
knows_it r g e = subst (Knows g) (sym (when_accepted r g e)) (record { most = more_of r.gate.count g.count; last = inl refl })

knows_on : (g : Fence) (r : Resource) (f : Fence) → Knows g r → Knows g (after_fence r f)
knows_on g r f is = of (accepts r f) refl
  where
    most : g.count ≤ (if nat_lt r.gate.count f.count then f.count else r.gate.count)
    most = let first = is.most in let second = more_than r.gate.count f.count in omega (arith, first, second)

    held : (own : Bool) → is_own r f ≡ own → Knows g (held_by own r f)
    held true e = record { most = most; last = elim is.last [ inl tag ↦ inl (sym (same r.tag f.tag e) ∙ tag) | inr le ↦ inr le ] }
    held false e = record { most = most; last = inr is.most }

    of : (b : Bool) → accepts r f ≡ b → Knows g (after_fence r f)
    of false e = subst (Knows g) (sym (when_refused r f e)) is
    of true e = subst (Knows g) (sym (when_accepted r f e)) (held (is_own r f) refl)

knows_still : (g : Fence) (r : Resource) (fences : List Fence) → Knows g r → Knows g (after_fences r fences)
knows_still g r [] is = is
knows_still g r (f ∷ fences) is = knows_still g (after_fence r f) fences (knows_on g r f is)

greater : (g : Fence) (r : Resource) (f : Fence) → Knows g r → accepts r f ≡ true → (f.tag ≡ g.tag) ⊎ (g.count < f.count)
greater g r f is e =
    elim (why_accepted r f e) [
      | inl more ↦ inr (let most = is.most in omega (arith, most, more))
      | inr own ↦ elim is.last [ inl tag ↦ inl (sym own.0 ∙ tag) | inr le ↦ inr (let above = own.1 in omega (arith, le, above)) ]
    ]

pub later_is_greater : LaterIsGreater
later_is_greater r g f between e_g e_f = greater g (after_fences (after_fence r g) between) f (knows_still g (after_fence r g) between (knows_it r g e_g)) e_f

pub no_start_returns : NoStartReturns
no_start_returns r f g between later other e_f e_g = of (accepts (after_fences (after_fence (after_fences (after_fence r f) between) g) later) f) refl
  where
    first : (g.tag ≡ f.tag) ⊎ (f.count < g.count)
    first = later_is_greater r f g between e_f e_g

    of : (b : Bool) → accepts (after_fences (after_fence (after_fences (after_fence r f) between) g) later) f ≡ b → b ≡ false
    of false e = refl
    of true e =
        elim (later_is_greater (after_fences (after_fence r f) between) g f later e_g e) [
          | inl tag ↦ absurd (other tag)
          | inr more ↦ elim first [ inl tag ↦ absurd (other (sym tag)) | inr fewer ↦ absurd (omega (arith, more, fewer)) ]
        ]

-- ---- accepted fences

-- no other run has come as far as this fence
record Awaits (f : Fence) (r : Resource) : Type 0 where
  own : r.tag ≡ f.tag → r.gate.floor < f.count
  other : (r.tag ≡ f.tag → ⊥) → r.gate.count < f.count

lets_in : (f : Fence) (r : Resource) → Awaits f r → accepts r f ≡ true
lets_in f r is = of (is_own r f) refl
  where
    of : (b : Bool) → is_own r f ≡ b → (nat_lt r.gate.count f.count || (b && nat_lt r.gate.floor f.count)) ≡ true
    of true e = let above = is.own (same r.tag f.tag e) in grind (arith, nat_tests, above)
    of false e = let above = is.other (differ r.tag f.tag e) in grind (arith, nat_tests, above)

awaits_on : (f : Fence) (r : Resource) (g : Fence) → IsNoNewer f g → Awaits f r → Awaits f (after_fence r g)
awaits_on f r g older is = of (accepts r g) refl
  where
    held : (own : Bool) → is_own r g ≡ own → accepts r g ≡ true → Awaits f (held_by own r g)
    held true e accepted =
        let tag = same r.tag g.tag e in
        record {
          own = λ named. is.own (tag ∙ named);
          other = λ apart. both_below r.gate.count g.count f.count (is.other (λ named. apart (sym tag ∙ named))) (elim older [ inl named ↦ absurd (apart named) | inr less ↦ less ]);
        }
    held false e accepted =
        record {
          own = λ named. is.other (λ was. differ r.tag g.tag e (was ∙ sym named));
          other = λ apart.
              elim older [
                | inl named ↦ absurd (apart named)
                | inr less ↦
                    both_below r.gate.count g.count f.count
                    (elim (why_accepted r g accepted) [ inl more ↦ omega (arith, more, less) | inr own ↦ absurd (differ r.tag g.tag e own.0) ])
                    less
              ];
        }

    of : (b : Bool) → accepts r g ≡ b → Awaits f (after_fence r g)
    of false e = subst (Awaits f) (sym (when_refused r g e)) is
    of true e = subst (Awaits f) (sym (when_accepted r g e)) (held (is_own r g) refl e)

awaits_still : (f : Fence) (r : Resource) (fences : List Fence) → AllByRecursion (IsNoNewer f) fences → Awaits f r → Awaits f (after_fences r fences)
awaits_still f r [] all is = is
awaits_still f r (g ∷ fences) all is = awaits_still f (after_fence r g) fences all.1 (awaits_on f r g all.0 is)

pub newest_is_accepted : NewestIsAccepted
newest_is_accepted f fences some all = lets_in f (after_fences new_resource fences) (awaits_still f new_resource fences all (record { own = λ named. some; other = λ apart. some }))
