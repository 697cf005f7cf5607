-- How the batches are read, one after another.
use Rattle.std.proofs.Common.{◌≡◌, ◌≢◌, ℕ, ◌+◌, ◌<◌, ◌^◌, List, [], ◌∷◌, ◌++◌, length, take, drop, get_or, refl, sym, ◌∙◌, ap, arith, append_assoc, length-append}
use Rattle.std.specs.Borrow.{Bor}
use Rattle.std.proofs.lemmas.Bool.Decides.{nat_tests}
use Rattle.std.specs.Int.{w32, to_be_bytes, from_be_bytes}
use Rattle.std.proofs.lemmas.List.{take_at, drop_at, append-nil}
use Rattle.coord_journal.specs.Facade.{BeginsWithBody, IsOpened, ReadsAs, bodies, sized}
use Rattle.coord_journal.specs.declared.layout.TheConstants.{MAX_BODY}
use Rattle.coord_journal.proofs.Appended.{opened_push}

pub empty : (l : List ℕ) → length l ≡ 0 → l ≡ []
empty [] none = refl
empty (x ∷ l) none = absurd (omega (arith, none))

module _ (limit : ℕ) (small : limit < 2 ^ 32) where
  -- the size at the beginning
  pub size_read : (first : ℕ) (body following l : List ℕ) → BeginsWithBody limit first body following l → from_be_bytes w32 (take 4 (drop 1 l)) ≡ length body
  size_read first body following l h1 = grind (arith, nat_tests, h1)

  after_read : (first : ℕ) (body following l : List ℕ) → BeginsWithBody limit first body following l → drop 5 l ≡ body ++ following
  after_read first body following l h1 = grind (arith, nat_tests, h1)

  -- the body and the bytes after it are the same, however they are read
  same_size : (first first' : ℕ) (body body' following after' l : List ℕ) → BeginsWithBody limit first body following l → BeginsWithBody limit first' body' after' l → length body ≡ length body'
  same_size first first' body body' following after' l one other = sym (size_read first body following l one) ∙ size_read first' body' after' l other

  same_after : (first first' : ℕ) (body body' following after' l : List ℕ) → BeginsWithBody limit first body following l → BeginsWithBody limit first' body' after' l → body ++ following ≡ body' ++ after'
  same_after first first' body body' following after' l one other = sym (after_read first body following l one) ∙ after_read first' body' after' l other

  pub same_body : (first first' : ℕ) (body body' following after' l : List ℕ) → BeginsWithBody limit first body following l → BeginsWithBody limit first' body' after' l → body ≡ body'
  same_body first first' body body' following after' l one other =
      sym (take_at body following (length body) refl)
      ∙ ap (λ (k : List ℕ). take (length body) k) (same_after first first' body body' following after' l one other)
      ∙ take_at body' after' (length body) (sym (same_size first first' body body' following after' l one other))

  pub same_following : (first first' : ℕ) (body body' following after' l : List ℕ) → BeginsWithBody limit first body following l → BeginsWithBody limit first' body' after' l → following ≡ after'
  same_following first first' body body' following after' l one other =
      sym (drop_at body following (length body) refl)
      ∙ ap (λ (k : List ℕ). drop (length body) k) (same_after first first' body body' following after' l one other)
      ∙ drop_at body' after' (length body) (sym (same_size first first' body body' following after' l one other))

pub small_body : MAX_BODY < 2 ^ 32
small_body = omega arith

pub record First (batch : List ℕ) (batches : List (List ℕ)) (size : ℕ) (l : List ℕ) : Type 0 where
  pub gate : ℕ
  pub is_open : gate ≢ 0
  pub following : List ℕ
  pub begins : BeginsWithBody MAX_BODY gate batch following l
  pub more : ℕ
  pub reads : ReadsAs batches more following
  pub size_is : size ≡ 5 + length batch + more

-- what reads as some batches begins with the first of them
pub first : (b : List ℕ) (bs : List (List ℕ)) (size : ℕ) (l : List ℕ) → ReadsAs (b ∷ bs) size l → First b bs size l
first b bs size l reads =
    let o = reads.3 in
    let all : l ≡ o.0 ∷ (sized b ++ (o.1 ++ 0 ∷ reads.1)) = reads.2 ∙ ap (λ (k : List ℕ). k ++ 0 ∷ reads.1) o.3.1 ∙ ap (λ (k : List ℕ). o.0 ∷ k) (append_assoc (sized b) o.1 (0 ∷ reads.1)) in
    record {
      gate = o.0;
      is_open = o.2;
      following = o.1 ++ 0 ∷ reads.1;
      begins = (o.3.0, all);
      more = length o.1;
      reads = (o.1, reads.1, refl, o.4, refl);
      size_is = omega (arith, reads.4, ap length o.3.1, length-append (sized b) o.1, length-append (to_be_bytes w32 (length b)) b);
    }

-- with no batch it begins with a closed gate
pub closed : (size : ℕ) (l : List ℕ) → ReadsAs [] size l → (following : List ℕ) × (l ≡ 0 ∷ following) × (size ≡ 0)
closed size l reads = (reads.1, reads.2 ∙ ap (λ (k : List ℕ). k ++ 0 ∷ reads.1) reads.3, omega (arith, reads.4, ap length reads.3))

-- nothing is read from an empty text
pub nothing : (batches : List (List ℕ)) (size : ℕ) → ReadsAs batches size [] → ⊥
nothing [] size reads = let e = ap length (closed size [] reads).1 in omega (arith, e)
nothing (b ∷ bs) size reads = let e = ap length (first b bs size [] reads).begins.1 in omega (arith, e)

head_of : (first : ℕ) (rest l : List ℕ) → l ≡ first ∷ rest → get_or l 0 0 ≡ first
head_of first rest l is = ap (λ (k : List ℕ). get_or k 0 0) is

-- whatever bytes in front of which a gate is open read as, they begin with a batch
pub record Some (l : List ℕ) : Type 0 where
  pub batch : List ℕ
  pub batches : List (List ℕ)
  pub size : ℕ
  pub first : First batch batches size l

pub some : (l : List ℕ) → get_or l 0 0 ≢ 0 → (batches : List (List ℕ)) (size : ℕ) → ReadsAs batches size l → Some l
some l is_open [] size reads = let none = closed size l reads in absurd (is_open (head_of 0 none.0 l none.1))
some l is_open (b ∷ bs) size reads = record { batch = b; batches = bs; size = size; first = first b bs size l reads }

-- bytes read as one list of batches at most
pub reads_same : (bs cs : List (List ℕ)) (m n : ℕ) (l : List ℕ) → ReadsAs bs m l → ReadsAs cs n l → (bs ≡ cs) × (m ≡ n)
reads_same [] [] m n l one other = (refl, (closed m l one).2 ∙ sym (closed n l other).2)
reads_same [] (c ∷ cs) m n l one other =
    let none = closed m l one in
    let f = first c cs n l other in
    absurd (f.is_open (sym (head_of f.gate _ l f.begins.1) ∙ head_of 0 none.0 l none.1))
reads_same (b ∷ bs) [] m n l one other =
    let none = closed n l other in
    let f = first b bs m l one in
    absurd (f.is_open (sym (head_of f.gate _ l f.begins.1) ∙ head_of 0 none.0 l none.1))
reads_same (b ∷ bs) (c ∷ cs) m n l one other =
    let f = first b bs m l one in
    let g = first c cs n l other in
    let body = same_body MAX_BODY small_body f.gate g.gate b c f.following g.following l f.begins g.begins in
    let following = same_following MAX_BODY small_body f.gate g.gate b c f.following g.following l f.begins g.begins in
    let rest = reads_same bs cs f.more g.more f.following f.reads (rw following g.reads) in
    (ap (λ (k : List ℕ). k ∷ bs) body ∙ ap (λ (k : List (List ℕ)). c ∷ k) rest.0, omega (arith, f.size_is, g.size_is, ap length body, rest.1))

-- one batch more in front of the rest
pub opened_more : (batches : List (Bor (List ℕ))) (v : Bor (List ℕ)) (opened batch following rest text : List ℕ) (gate : ℕ) → text ≡ opened ++ rest → IsOpened (bodies batches) opened → gate ≢ 0 → v.now ≡ batch → BeginsWithBody MAX_BODY gate batch following rest
    → (front : List ℕ) × (text ≡ front ++ following) × IsOpened (bodies (batches ++ v ∷ [])) front
opened_more batches v opened batch following rest text gate split so_far is_open same begins = (
  opened ++ gate ∷ (sized batch ++ []),
  split ∙ ap (λ (k : List ℕ). opened ++ k) (begins.1 ∙ ap (λ (k : List ℕ). gate ∷ (k ++ following)) (sym (append-nil (sized batch)))) ∙ sym (append_assoc opened (gate ∷ (sized batch ++ [])) following),
  rw (bodies_push batches v) (rw same (opened_push (bodies batches) batch opened gate so_far is_open begins.0)),
)
  where
    bodies_push : (vs : List (Bor (List ℕ))) (w : Bor (List ℕ)) → bodies (vs ++ w ∷ []) ≡ bodies vs ++ w.now ∷ []
    bodies_push [] w = refl
    bodies_push (u ∷ vs) w = ap (λ (k : List (List ℕ)). u.now ∷ k) (bodies_push vs w)
