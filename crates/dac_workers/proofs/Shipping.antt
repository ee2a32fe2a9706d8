-- One more call of a link's threads.
use Rattle.std.proofs.Common.{◌≡◌, ℕ, zero, suc, ◌+◌, List, [], ◌∷◌, ◌++◌, length, get_or, drop, map, All, Some, None, Ok, refl, sym, ap, ◌∙◌, subst, append_assoc, append-nil, arith}
use Rattle.dac_workers.specs.laws.Common.{Ship, Hear, Message, CallAdded, packet_at, IsLetterOf, ships_to, Ships, Hears}
use Rattle.std.proofs.lemmas.List.Elements.{All-append, All-cons, All-nil}
use Rattle.dac_base.specs.declared.NodeId.{NodeId}
use Rattle.dac_config.specs.Table.{Table}
use Rattle.dac_messages.specs.declared.event.Event.{Event}
use Rattle.dac_messages.specs.declared.reply.Reply.TheVariants.{Shipped}
use Rattle.dac_sites.specs.Call.{Call}
use Rattle.dac_links.specs.Relay.{LetterValue}
use Rattle.dac_wire.specs.declared.packet.Packet.TheVariants.{Msg}
use Rattle.dac_workers.specs.Links.{shipped_by, shipped_in, letters_of, ReadsBack, ShipsOne, HearsOne, AreRead}

-- ---- appending one element
events_push : (cs : List Call) (c : Call) → map (λ (c : Call). c.event) (cs ++ c ∷ []) ≡ map (λ (c : Call). c.event) cs ++ c.event ∷ []
events_push [] c = refl
events_push (x ∷ cs) c = ap (λ l. x.event ∷ l) (events_push cs c)

shipped_push : (cs : List Call) (c : Call) → shipped_in (cs ++ c ∷ []) ≡ shipped_in cs ++ shipped_by c.answer
shipped_push [] c = append-nil (shipped_by c.answer)
shipped_push (x ∷ cs) c = ap (λ l. shipped_by x.answer ++ l) (shipped_push cs c) ∙ sym (append_assoc (shipped_by x.answer) (shipped_in cs) (shipped_by c.answer))

letters_append : (t : Table) (ms ns : List Message) → letters_of t (ms ++ ns) ≡ letters_of t ms ++ letters_of t ns
letters_append t [] ns = refl
letters_append t (m ∷ ms) ns = ap (λ l. letters_of t (m ∷ []) ++ l) (letters_append t ms ns)

pub ships_push : (to : NodeId) (n : ℕ) → ships_to to n ++ Ship to ∷ [] ≡ ships_to to (suc n)
ships_push to zero = refl
ships_push to (suc n) = ap (λ l. Ship to ∷ l) (ships_push to n)

pub ships_many : (to : NodeId) (n : ℕ) → length (ships_to to n) ≡ n
ships_many to zero = refl
ships_many to (suc n) = ap suc (ships_many to n)

-- each event of these ships to the node
pub ships_each : (to : NodeId) (n : ℕ) (front : List Event) (e : Event) (rest : List Event) → ships_to to n ≡ (front ++ e ∷ []) ++ rest → e ≡ Ship to
ships_each to zero [] e rest is = let none : 0 ≡ length (e ∷ rest) = ap length is in absurd (omega (arith, none))
ships_each to zero (x ∷ front) e rest is = let none : 0 ≡ length (x ∷ ((front ++ e ∷ []) ++ rest)) = ap length is in absurd (omega (arith, none))
ships_each to (suc n) [] e rest is = sym (ap (λ l. get_or l 0 e) is)
ships_each to (suc n) (x ∷ front) e rest is = ships_each to n front e rest (ap (drop 1) is)

hears_push : (ms : List Message) (m : Message) → map Hear (ms ++ m ∷ []) ≡ map Hear ms ++ Hear m ∷ []
hears_push [] m = refl
hears_push (x ∷ ms) m = ap (λ l. Hear x ∷ l) (hears_push ms m)

read_push : (t : Table) (ps : List LetterValue) (ms : List Message) (bytes : List ℕ) (m : Message) → AreRead t ps ms → packet_at t bytes ≡ Ok (Msg m) → AreRead t (ps ++ Some bytes ∷ []) (ms ++ m ∷ [])
read_push t [] [] bytes m r e = (e, tt)
read_push t [] (x ∷ ms) bytes m r e = absurd r
read_push t (p ∷ ps) [] bytes m r e = absurd r
read_push t (None ∷ ps) (x ∷ ms) bytes m r e = absurd r
read_push t (Some b ∷ ps) (x ∷ ms) bytes m r e = (r.0, read_push t ps ms bytes m r.1 e)

-- ---- shipping
pub ships_letter : (t : Table) (to : NodeId) (place : ℕ) (message : Message) (letter : LetterValue) (old new : List Call) (put now : List LetterValue) → CallAdded old new place (Ship to) (Ok (Shipped message)) → IsLetterOf t message letter → now ≡ put ++ letter ∷ [] → ShipsOne t to old new put now
ships_letter t to place message letter old new put now added l e = record {
  call = _;
  calls = added;
  event = refl;
  letters = e ∙ ap (λ p. put ++ p ∷ []) l.bytes;
  sound = All-cons (ReadsBack t) message [] l.reads (All-nil (ReadsBack t));
}

pub ships_none : (t : Table) (to : NodeId) (old : List Call) (put : List LetterValue) → Ships t to 0 old old put put []
ships_none t to old put = record { made = []; calls = sym (append-nil old); events = refl; letters = sym (append-nil (put ++ []) ∙ append-nil put); sound = λ k d front. absurd (omega (arith, front)) }

pub ships_more : (t : Table) (to : NodeId) (n : ℕ) (old mid new : List Call) (put now after : List LetterValue) → Ships t to n old mid put now [] → ShipsOne t to mid new now after → Ships t to (n + 1) old new put after []
ships_more t to n old mid new put now after s o =
    let made = s.made in let c = o.call in
    let k : n + 1 ≡ suc n = omega arith in
    let old_letters = letters_of t (shipped_in made) in
    let new_letters = letters_of t (shipped_by c.answer) in
    let all : letters_of t (shipped_in (made ++ c ∷ [])) ≡ old_letters ++ new_letters = ap (letters_of t) (shipped_push made c) ∙ letters_append t (shipped_in made) (shipped_by c.answer) in
    record {
      made = made ++ c ∷ [];
      calls = o.calls ∙ ap (λ l. l ++ c ∷ []) s.calls ∙ append_assoc old made (c ∷ []);
      events = events_push made c ∙ (λ i. s.events i ++ o.event i ∷ []) ∙ ships_push to n ∙ sym (ap (ships_to to) k);
      letters =
          o.letters ∙ ap (λ l. l ++ new_letters) (s.letters ∙ append-nil (put ++ old_letters)) ∙ append_assoc put old_letters new_letters ∙ ap (λ l. put ++ l) (sym all)
          ∙ sym (append-nil (put ++ letters_of t (shipped_in (made ++ c ∷ []))));
      sound = subst (All (ReadsBack t)) (sym (shipped_push made c)) (All-append (ReadsBack t) (shipped_in made) (shipped_by c.answer) s.sound o.sound);
    }

-- ---- hearing
pub hears_none : (t : Table) (old : List Call) (taken : List LetterValue) → Hears t old old taken taken []
hears_none t old taken = record { made = []; papers = []; heard = []; calls = sym (append-nil old); events = refl; letters = sym (append-nil (taken ++ []) ∙ append-nil taken); reads = tt }

pub hears_more : (t : Table) (old mid new : List Call) (taken now after : List LetterValue) (bytes : List ℕ) (m : Message) → Hears t old mid taken now [] → after ≡ now ++ Some bytes ∷ [] → packet_at t bytes ≡ Ok (Msg m) → HearsOne mid new m
    → Hears t old new taken after []
hears_more t old mid new taken now after bytes m s e r o =
    let made = s.made in let papers = s.papers in let c = o.call in
    record {
      made = made ++ c ∷ [];
      papers = papers ++ Some bytes ∷ [];
      heard = s.heard ++ m ∷ [];
      calls = o.calls ∙ ap (λ l. l ++ c ∷ []) s.calls ∙ append_assoc old made (c ∷ []);
      events = events_push made c ∙ (λ i. s.events i ++ o.event i ∷ []) ∙ sym (hears_push s.heard m);
      letters = e ∙ ap (λ l. l ++ Some bytes ∷ []) (s.letters ∙ append-nil (taken ++ papers)) ∙ append_assoc taken papers (Some bytes ∷ []) ∙ sym (append-nil (taken ++ (papers ++ Some bytes ∷ [])));
      reads = read_push t papers s.heard bytes m s.reads r;
    }
