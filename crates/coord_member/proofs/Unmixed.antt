-- The invariant of all members excludes mixed runs.
use Rattle.std.proofs.Common.{◌≡◌, ℕ, List, Option, Some, None, refl, ap}
use Rattle.coord_member.specs.declared.view.Entry.{Entry}
use Rattle.coord_member.specs.Rule.{run_of}
use Rattle.coord_member.specs.Members.{MemberWorld, Start, Talked}
use Rattle.coord_member.specs.NoMix.{IsOneOf, HasOneOfEach, IsUnmixed}
use Rattle.coord_member.proofs.Holding.{Claim, Past, Holds, all_of}

-- a node and a party name one start that talked
abbrev pub by_party : Claim
by_party = record { same = λ t u. (t.start.node ≡ u.start.node) × (t.party ≡ u.party); alike = λ t u. t ≡ u; itself = λ t. refl }

-- ---- what holds leaves no mix

-- starts that talked in one run
one_of_each : (past : Past) (w : MemberWorld) (p : List Entry) (causal_past : List Start) → Holds by_party past w → ((s : Start) → IsOneOf s causal_past → IsOneOf (record { start = s; party = p }) w.talked) → HasOneOfEach causal_past
one_of_each past w p causal_past h talked s t in_s in_t same = ap (λ (k : Talked). k.start) (h.starts _ _ (talked s in_s) (talked t in_t) (same, refl))

unmixed_member : (past : Past) (w : MemberWorld) (i : ℕ) (p : Option (List Entry)) → Holds by_party past w → run_of (w.member i).kept.party ≡ p → HasOneOfEach (w.member i).causal_past
unmixed_member past w i None h e =
    λ s t in_s in_t same. let a = (h.members i).alone s e in_s in let b = (h.members i).alone t e in_t in cc
unmixed_member past w i (Some p) h e = one_of_each past w p (w.member i).causal_past h (λ s in_s. (h.members i).causal_past p s e in_s)

pub unmixed : (past : Past) (w : MemberWorld) → Holds by_party past w → IsUnmixed w
unmixed past w h =
    record {
      members = λ i. unmixed_member past w i (run_of (w.member i).kept.party) h refl;
      messages = all_of _ w.messages (λ m in_m. one_of_each past w m.tag m.causal_past h (λ s in_s. h.messages m s in_m in_s));
      talkers = λ i p e. all_of _ (w.member i).causal_past (λ s in_s. (h.members i).causal_past p s ((h.members i).named p e) in_s);
      runs = h.runs;
      starts = λ t u in_t in_u n e. h.starts t u in_t in_u (n, e);
    }
