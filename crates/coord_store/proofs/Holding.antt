-- What the images of a journal's disk give.
use Rattle.std.proofs.Common.{◌≡◌, ◌≢◌, ℕ, ◌+◌, ◌≤◌, Bool, true, false, List, length, None, Some, Option, is_some, Result, Ok, Err, IfErr, inl, inr, ⊎_elim, refl, sym, ap, ◌∙◌, subst, arith}
use Rattle.std.proofs.lemmas.Bool.Decides.{nat_tests}
use Rattle.coord_batch.specs.Facade.{IsBatch, batch, pair}
use Rattle.coord_codec.specs.Worlds.{world}
use Rattle.coord_disk.specs.Model.DiskModel.{DiskModel, IsModel}
use Rattle.coord_disk.specs.Model.Moments.{LeavesOnly}
use Rattle.coord_disk.specs.Model.Present.{IsImage}
use Rattle.coord_disk.proofs.MomentLemmas.{and_then, started, weaker}
use Rattle.coord_disk.proofs.TornWrites.{whole_image}
use Rattle.coord_journal.specs.Facade.{Content, HasPlaceIn, HasRoomFor, IsEitherText, IsText, IsTextIn, disk_of, half_of, half_size_of, has_stopped, used_of, with_batch, without_batch}
use Rattle.coord_journal.specs.Writing.{Rewrites}
use Rattle.coord_journal.specs.declared.fault.JournalFault.{JournalFault}
use Rattle.coord_journal.specs.declared.journal.Journal.{Journal}
use Rattle.coord_journal.proofs.Texts.{text_place}
use Rattle.coord_types.specs.declared.steps.Step.{Step}
use Rattle.coord_world.specs.Facade.{InRange, Legal, World, fold, rows_of}
use Rattle.coord_store.specs.Facade.{AllFresh, Ends, Follows, Gives, GivesEither, Holds, ImagesGive, IsBody, IsKept, IsOnlyWorld, Kept, Recovered, Stays, Takes}
use Rattle.coord_store.specs.declared.faults.CommitFault.{CommitFault}
use Rattle.coord_store.specs.declared.faults.CommitFault.TheVariants.{Device}
use Rattle.coord_store.proofs.Freshness.{replays-push}

pub text_gives : (content : Content) (w : World) (bytes : List ℕ) → Gives content w → IsText content bytes → Recovered bytes w
text_gives content w bytes gives text = record { content = content; text = text; gives = gives }

-- with a batch more
pub gives-push : (content : Content) (w : World) (body : List ℕ) (steps : List Step) → Gives content w → Takes w body steps → Gives (with_batch content body) (fold w steps)
gives-push content w body steps gives takes = record {
  start = gives.start;
  snapshot = record { known = gives.snapshot.known; in_range = gives.snapshot.in_range; spelled = gives.snapshot.spelled };
  legal = gives.legal;
  replays = replays-push content.batches body steps gives.start w gives.replays takes;
}

-- a snapshot alone
pub snapshot_gives : (version : ℕ) (snapshot : List ℕ) (w : World) → version ≡ w.version → InRange w → Legal w → snapshot ≡ (world w.version).text (rows_of w) → Gives (without_batch version snapshot) w
snapshot_gives version snapshot w known range legal spelled = record { start = w; snapshot = record { known = known; in_range = range; spelled = spelled }; legal = legal; replays = refl }

-- what the body of a batch of fresh steps spells is taken
pub taken : (w : World) (version n : ℕ) (body items : List ℕ) (steps : List Step) → version ≡ w.version → n ≡ w.count → body ≡ items → items ≡ (batch version).text (pair (n + 1) steps) → IsBatch version (n + 1) steps → AllFresh w w steps → Takes w body steps
taken w version n body items steps one counts is spelled fits fresh = record {
  spells = record {
    numbered = rw (sym one) (rw (sym counts) fits);
    spelled = is ∙ spelled ∙ (λ i. (batch (one i)).text (pair (counts i + 1) steps));
  };
  fresh = fresh;
}

-- all bodies of these steps are as long
pub as_long : (w : World) (one other : List ℕ) (steps : List Step) → IsBody w one steps → IsBody w other steps → length one ≡ length other
as_long w one other steps spells too = ap length (spells.spelled ∙ sym too.spelled)

pub none_of : (o : Option World) (b : Bool) → b ≡ is_some o → b ≡ false → o ≡ None
none_of o b is clear = grind (arith, nat_tests, is, clear)

-- the consequences of a call that is refused for another reason than its device
pub on_refusal : {T P Q : Type 0} (r : Result T CommitFault) → (P → Q) → IfErr r (λ fault. fault ≢ Device → P) → IfErr r (λ fault. fault ≢ Device → Q)
on_refusal (Ok x) implies refused = tt
on_refusal (Err fault) implies refused = λ other. implies (refused other)

-- while another content is put in place of one
either_gives : (content other : Content) (v w : World) → Gives content v → Gives other w → (bytes : List ℕ) → IsEitherText content other bytes → GivesEither v w bytes
either_gives content other v w gives too bytes either = ⊎_elim (λ t. inl (text_gives content v bytes gives t)) (λ t. inr (text_gives other w bytes too t)) either

module _ {D : Type 0} (m : DiskModel D) where
  -- a run that leaves one world, and then one that leaves it or another
  pub only_then_either : (old mid new : D) (v w : World) → LeavesOnly m old mid (IsOnlyWorld v) → LeavesOnly m mid new (GivesEither v w) → LeavesOnly m old new (GivesEither v w)
  only_then_either old mid new v w one other = weaker m old new _ _ (and_then m old mid new _ _ one other) (λ bytes either. ⊎_elim (λ first. inl first) (λ second. second) either)

  -- a run that leaves one world, and then one that leaves it alone
  pub only_twice : (old mid new : D) (w : World) → LeavesOnly m old mid (IsOnlyWorld w) → LeavesOnly m mid new (IsOnlyWorld w) → LeavesOnly m old new (IsOnlyWorld w)
  only_twice old mid new w one other = weaker m old new _ _ (and_then m old mid new _ _ one other) (λ bytes either. ⊎_elim (λ first. first) (λ second. second) either)

  pub only_is_either : (old new : D) (v w : World) → LeavesOnly m old new (IsOnlyWorld v) → LeavesOnly m old new (GivesEither v w)
  only_is_either old new v w only = weaker m old new _ _ only (λ bytes gives. inl gives)

  pub either_is_only : (old new : D) (w : World) → LeavesOnly m old new (GivesEither w w) → LeavesOnly m old new (IsOnlyWorld w)
  either_is_only old new w either = weaker m old new _ _ either (λ bytes gives. ⊎_elim (λ first. first) (λ second. second) gives)

  -- each image of a journal that holds a world gives it
  pub image_gives : (journal : Journal D) (w : World) → Holds m journal w → (image : List ℕ) → IsImage (m.present (disk_of journal)) image → Recovered image w
  image_gives journal w holds image is =
      text_gives holds.content w image holds.gives
      (subst (IsText holds.content) (sym (whole_image (m.present (disk_of journal)).read (m.present (disk_of journal)) holds.ready.synced image is)) (half_size_of journal, half_of journal, used_of journal, holds.ready.text))

  -- where its text has room, it has
  pub has_room : (journal : Journal D) (w : World) (half len : ℕ) → Holds m journal w → HasPlaceIn half len (m.present (disk_of journal)).read → HasRoomFor journal len × (half_of journal ≡ half)
  has_room journal w half len holds place =
      let same = text_place (m.present (disk_of journal)).read holds.content place.0 (half_size_of journal) place.1 (half_of journal) half (used_of journal) place.2 holds.ready.text place.3 in
      (omega (arith, same.0, same.2, place.4), same.1)

  pub in_half : (journal : Journal D) (w : World) (half : ℕ) → Holds m journal w → half_of journal ≡ half → IsTextIn half (m.present (disk_of journal)).read
  in_half journal w half holds same = (holds.content, half_size_of journal, used_of journal, rw (sym same) holds.ready.text)

  -- what a journal's writing of another content means for the worlds that the contents give
  pub follows_done : {T U : Type 0} (old new : Journal D) (other : Content) (w next : World) (holds : Holds m old w) (x : T) (y : U) → Gives other next → Rewrites m holds.content other old new (Ok x) → Follows m w next old new (Ok y)
  follows_done old new other w next holds x y gives writes = record {
    any_moment = weaker m _ _ _ _ writes.any_moment (either_gives holds.content other w next holds.gives gives);
    done = record { content = other; ready = writes.done; gives = gives };
  }

  pub follows_refused : {T U : Type 0} (old new : Journal D) (other : Content) (w next : World) (holds : Holds m old w) (why : JournalFault) (fault : CommitFault) → Gives other next → Rewrites {T = T} m holds.content other old new (Err why) → Follows {T = U} m w next old new (Err fault)
  follows_refused old new other w next holds why fault gives writes = record { any_moment = weaker m _ _ _ _ writes.any_moment (either_gives holds.content other w next holds.gives gives); done = tt }

  -- before any call
  pub begun : IsModel m → (journal : Journal D) (w : World) → Holds m journal w → LeavesOnly m (disk_of journal) (disk_of journal) (IsOnlyWorld w)
  begun laws journal w holds = started m laws (disk_of journal) (IsOnlyWorld w) holds.ready.keeps (image_gives journal w holds)

  -- the same of a store of which no commit was torn
  pub stays : IsModel m → (s : Kept D) → m.keeps_model s.disk ≡ true → ImagesGive m s → s.torn ≡ None → LeavesOnly m s.disk s.disk (IsOnlyWorld s.world)
  stays laws s keeps images none =
      started m laws s.disk (IsOnlyWorld s.world) keeps (λ image is. ⊎_elim (λ gives. gives) (λ torn. let no : ⊥ = cc (none, torn.1) in absurd no) (images image is))

  -- if nothing was written
  pub unwritten : IsModel m → (old new : Journal D) (w : World) → Holds m old w → new ≡ old → LeavesOnly m (disk_of old) (disk_of new) (IsOnlyWorld w) × Holds m new w
  unwritten laws old new w holds same = rw same (begun laws old w holds, holds)

  pub stays_by : {T : Type 0} → IsModel m → (old new : Journal D) (w : World) (fault : CommitFault) → Holds m old w → (fault ≢ Device → new ≡ old) → Stays {T = T} m w old new (Err fault)
  stays_by laws old new w fault holds same = record { any_moment = λ other. (unwritten laws old new w holds (same other)).0; held = λ other. (unwritten laws old new w holds (same other)).1 }

  -- a bound on the number of calls may be raised
  pub ends_within : {T : Type 0} (n k : ℕ) (old new : Journal D) (r : Result T CommitFault) → n ≤ k → Ends m n old new r → Ends m k old new r
  ends_within n k old new r le ends = grind arith

  -- a store that goes on
  pub kept_on : (journal : Journal D) (w : World) (torn : Option World) → torn ≡ None → Legal w → has_stopped journal ≡ false → (m.keeps_model (disk_of journal) ≡ true → Holds m journal w) → IsKept m journal w torn
  kept_on journal w torn none legal going holds = grind (arith, image_gives)

  -- a store after a torn commit
  pub kept_torn : IsModel m → (old : D) (journal : Journal D) (w next : World) → Legal w → has_stopped journal ≡ true → (m.keeps_model (disk_of journal) ≡ true → LeavesOnly m old (disk_of journal) (GivesEither w next)) → IsKept m journal w (Some next)
  kept_torn laws old journal w next legal stopped moments = record {
    legal = legal;
    stopped = stopped;
    holds = λ k none. absurd cc;
    images = λ k image is. ⊎_elim (λ r. inl r) (λ r. inr (next, refl, r)) ((moments k).each image (laws.counts_now (disk_of journal) (m.clock old) image k (moments k).later is));
  }
