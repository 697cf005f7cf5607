-- The faults of `init`, from those of its parts.
use Rattle.std.proofs.Common.{◌≡◌, ◌≢◌, ℕ, List, take, inl, Option, Some, None, Result, Ok, Err, IfSome, refl, subst, arith, IfErr, IfOk}
use Rattle.std.proofs.lemmas.Bool.Decides.{nat_tests}
use Rattle.coord_config.specs.Topology.{Content, content}
use Rattle.coord_config.specs.declared.fault.ConfigFault.{ConfigFault}
use Rattle.coord_config.specs.declared.fault.ConfigFault.TheVariants as of_topology
use Rattle.coord_config.specs.declared.topology.Topology.{Topology as Given}
use Rattle.coord_commands.specs.Ending.{IsOfWriting}
use Rattle.coord_commands.specs.Making.{IsFounded, IsOfMaking, RefusesFile, RefusesStore, Says, StaysKnown, begun}
use Rattle.coord_commands.specs.declared.topology.TheConstants.{MOST_BYTES}
use Rattle.coord_commands.specs.Topology.{IsOfText, said_by}
use Rattle.coord_commands.specs.declared.fault.Fault.{Fault}
use Rattle.coord_commands.specs.declared.fault.Fault.TheVariants.{Usage, Read, Write, Socket, TooManyReads, OutOfMemory, Topology, Store, Refused, NotClosed}

-- a file that is refused for a reason says no topology for just this one
answered : {A : Type 0} (file : Option (List ℕ)) (P : List ℕ → Type 0) → IfSome file (λ bytes. A → P bytes) → A → IfSome file P
answered None P why so = tt
answered (Some bytes) P why so = why so

of_reason : (file : Option (List ℕ)) (reason : ConfigFault) → (reason ≢ of_topology.OutOfMemory → IfSome file (λ bytes. said_by (take MOST_BYTES bytes) ≡ Err reason)) → RefusesFile file reason
of_reason file reason h1 = grind (arith, nat_tests)

-- bytes stay where they are the same
stays : (same : Option (List ℕ)) → StaysKnown same same
stays None = tt
stays (Some bytes) = refl

-- the faults of a topology file, which leave the disk alone
of_text : (file same : Option (List ℕ)) (fault : Fault) → IsOfText fault
    → ((reason : ConfigFault) → reason ≢ of_topology.OutOfMemory → IfSome file (λ bytes. fault ≡ Topology reason → said_by (take MOST_BYTES bytes) ≡ Err reason)) → IsOfMaking file same same fault
of_text file same Usage is why = absurd is
of_text file same Read is why = stays same
of_text file same Write is why = absurd is
of_text file same Socket is why = absurd is
of_text file same TooManyReads is why = absurd is
of_text file same OutOfMemory is why = inl (stays same)
of_text file same (Topology reason) is why = (of_reason file reason (λ wanted. answered file (λ bytes. said_by (take MOST_BYTES bytes) ≡ Err reason) (why reason wanted) refl), stays same)
of_text file same (Store fault) is why = absurd is
of_text file same (Refused refusal) is why = absurd is
of_text file same (NotClosed fault) is why = absurd is

-- those of the store of the topology that the file says
of_store : (file before after : Option (List ℕ)) (topology : Content) (fault : Fault) → Says file topology → RefusesStore before after topology fault → IsOfMaking file before after fault
of_store file before after topology fault h1 h2 = grind (arith, nat_tests)

-- a file that cannot be read, or is refused, if this was left to read of it
pub refused_file : {A : Type 0} (file left same : Option (List ℕ)) (read : Result A Fault) (fault : Fault) → left ≡ file → read ≡ Err fault → IfErr read IsOfText
    → ((reason : ConfigFault) → reason ≢ of_topology.OutOfMemory → IfSome left (λ bytes. IfErr read (λ f. f ≡ Topology reason → said_by (take MOST_BYTES bytes) ≡ Err reason))) → IsOfMaking file same same fault
refused_file file left same read fault all is named refused =
    of_text file same fault (subst (λ r. IfErr r IsOfText) is named)
    (λ reason wanted. subst (λ l. IfSome l (λ bytes. fault ≡ Topology reason → said_by (take MOST_BYTES bytes) ≡ Err reason)) all
    (subst (λ r. IfSome left (λ bytes. IfErr r (λ f. f ≡ Topology reason → said_by (take MOST_BYTES bytes) ≡ Err reason))) is (refused reason wanted)))

-- the topology that was read from the file, if the store was made of it
pub said_of : (file left : Option (List ℕ)) (read : Result Given Fault) (topology : Given) → left ≡ file → read ≡ Ok topology
    → IfSome left (λ bytes. IfOk read (λ t. said_by (take MOST_BYTES bytes) ≡ Ok (content t))) → Says file (content topology)
said_of file left read topology all is said =
    subst (λ l. Says l (content topology)) all (subst (λ r. IfSome left (λ bytes. IfOk r (λ t. said_by (take MOST_BYTES bytes) ≡ Ok (content t)))) is said)

-- a store that is not made of the topology that was read
pub refused_store : (file left before after : Option (List ℕ)) (read : Result Given Fault) (topology : Given) (fault : Fault) → left ≡ file → read ≡ Ok topology
    → IfSome left (λ bytes. IfOk read (λ t. said_by (take MOST_BYTES bytes) ≡ Ok (content t))) → RefusesStore before after (content topology) fault → IsOfMaking file before after fault
refused_store file left before after read topology fault all is said refused =
    of_store file before after (content topology) fault
    (said_of file left read topology all is said) refused

-- the line of a store that was made cannot be printed
pub unprinted : (file before after : Option (List ℕ)) (topology : Content) → Says file topology → IsFounded topology (begun topology) before after → (fault : Fault) → IsOfWriting fault → IsOfMaking file before after fault
unprinted file before after topology h1 h2 fault h3 = grind (arith, nat_tests)
