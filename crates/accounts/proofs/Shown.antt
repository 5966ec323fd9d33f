-- What the answers of a history show is what was done along it, client by client.
use Rattle.std.proofs.Common.{◌≡◌, Bool, true, false, cond, ◌⊎◌, List, [], ◌∷◌, ◌++◌, sym, refl, ap, ◌∙◌, subst, inl, inr}
use Rattle.std.proofs.lemmas.Bool.{cond-true}
use Rattle.protocol.specs.Lawful.{Lawful}
use Rattle.backend.specs.declared.ids.ClientId.{ClientId}
use Rattle.backend.specs.declared.ids.ObjectId.{ObjectId}
use Rattle.backend.specs.declared.client.End.{End}
use Rattle.backend.specs.Ids.{same_client}
use Rattle.backend.specs.World.{Terms, World}
use Rattle.backend.specs.Acts.{Act, entered, ended, took, refused, received, flushed, opened, Deed}
use Rattle.backend.specs.Perform.{perform}
use Rattle.accounts.specs.Histories.{History, Leads, begins, gains, breaks, calls, deeds}
use Rattle.accounts.specs.Shown.{entries_shown, ends_shown, entries, ends, objects_of}
use Rattle.accounts.specs.Accounts.{Has, of, acts_of, entries_in}
use Rattle.accounts.specs.Tied.{acts_in}
use Rattle.accounts.proofs.Books.{told}
use Rattle.accounts.proofs.Kept.{same_client_self}
use Rattle.accounts.proofs.RunTies.{all_tied}

-- All that was done, one list after another.

acts_joined : (xs ys : List Deed) → acts_in (xs ++ ys) ≡ acts_in xs ++ acts_in ys
acts_joined [] ys = refl
acts_joined (d ∷ xs) ys = ap (λ (as' : List Act). d.act ∷ as') (acts_joined xs ys)

entries_joined : (as' bs : List Act) → entries_in (as' ++ bs) ≡ entries_in as' ++ entries_in bs
entries_joined [] bs = refl
entries_joined (entered x ∷ as') bs = ap (λ (xs : List ObjectId). x ∷ xs) (entries_joined as' bs)
entries_joined (ended e ∷ as') bs = entries_joined as' bs
entries_joined (took e ∷ as') bs = entries_joined as' bs
entries_joined (refused e ∷ as') bs = entries_joined as' bs
entries_joined (received ∷ as') bs = entries_joined as' bs
entries_joined (flushed ∷ as') bs = entries_joined as' bs
entries_joined (opened ∷ as') bs = entries_joined as' bs

told_joined : (as' bs : List Act) → told (as' ++ bs) ≡ told as' ++ told bs
told_joined [] bs = refl
told_joined (entered x ∷ as') bs = told_joined as' bs
told_joined (ended e ∷ as') bs = ap (λ (xs : List ObjectId). e.object ∷ xs) (told_joined as' bs)
told_joined (took e ∷ as') bs = told_joined as' bs
told_joined (refused e ∷ as') bs = told_joined as' bs
told_joined (received ∷ as') bs = told_joined as' bs
told_joined (flushed ∷ as') bs = told_joined as' bs
told_joined (opened ∷ as') bs = told_joined as' bs

-- the entries that the answers show are those that were made
pub entries_done : (t : Terms) → Lawful t.rows → {h : History} {w : World} → Leads t h w → entries h ≡ entries_in (acts_in (deeds h))
entries_done t lawful (begins lines) = refl
entries_done t lawful (gains p more r) = entries_done t lawful r
entries_done t lawful (breaks p r) = entries_done t lawful r
entries_done t lawful (calls {h} {w} c r) =
    let ds = (perform t c w).run.deeds in
    ap (λ (xs : List ObjectId). entries_shown (perform t c w).answer ++ xs) (entries_done t lawful r)
    ∙ (ap (λ (xs : List ObjectId). xs ++ entries_in (acts_in (deeds h))) (sym (all_tied t lawful c w).entries_are_shown)
    ∙ (sym (entries_joined (acts_in ds) (acts_in (deeds h))) ∙ ap entries_in (sym (acts_joined ds (deeds h)))))

-- and so are the ends
pub ends_done : (t : Terms) → Lawful t.rows → {h : History} {w : World} → Leads t h w → ends h ≡ told (acts_in (deeds h))
ends_done t lawful (begins lines) = refl
ends_done t lawful (gains p more r) = ends_done t lawful r
ends_done t lawful (breaks p r) = ends_done t lawful r
ends_done t lawful (calls {h} {w} c r) =
    let ds = (perform t c w).run.deeds in
    ap (λ (xs : List ObjectId). objects_of (ends_shown (perform t c w).answer) ++ xs) (ends_done t lawful r)
    ∙ (ap (λ (es : List End). objects_of es ++ told (acts_in (deeds h))) (sym (all_tied t lawful c w).ends_are_shown)
    ∙ (sym (told_joined (acts_in ds) (acts_in (deeds h))) ∙ ap told (sym (acts_joined ds (deeds h)))))

-- What was done to one client.

-- a way of reading handles off what was done, such as the entries or the ends, shows only the client's own
abbrev pub Own : (List Act → List ObjectId) → List Deed → Type 0
Own f ds = (c : ClientId) (x : ObjectId) → Has x (f (acts_of c ds)) → x.client ≡ c

module _ (c e : ClientId) (x : ObjectId) (xs : List ObjectId) (own : x.client ≡ e) where
  -- a handle of the client e, among those of the client c
  of_same : of c (x ∷ xs) ≡ cond (same_client c e) (x ∷ of c xs) (of c xs)
  of_same = ap (λ (d : ClientId). cond (same_client c d) (x ∷ of c xs) (of c xs)) own

-- f at one act more, and at one act fewer
module _ (f : List Act → List ObjectId) where
  abbrev Shows : Act → ObjectId → Type 0
  Shows a x = (as' : List Act) → f (a ∷ as') ≡ x ∷ f as'

  abbrev Hides : Act → Type 0
  Hides a = (as' : List Act) → f (a ∷ as') ≡ f as'

  pick : (b : Bool) (a : Act) (as' : List Act) → Hides a → f (cond b (a ∷ as') as') ≡ f as'
  pick true a as' hides = hides as'
  pick false a as' hides = refl

  pick_shown : (b : Bool) (a : Act) (x : ObjectId) (as' : List Act) → Shows a x → f (cond b (a ∷ as') as') ≡ cond b (x ∷ f as') (f as')
  pick_shown true a x as' shows = shows as'
  pick_shown false a x as' shows = refl

  -- what is the client's own in more is so in less
  fewer_shown : (b : Bool) (a : Act) (x y : ObjectId) (as' : List Act) → Shows a x → Has y (f as') → Has y (f (cond b (a ∷ as') as'))
  fewer_shown true a x y as' shows q = subst (Has y) (sym (shows as')) (inr q)
  fewer_shown false a x y as' shows q = q

  fewer_hidden : (b : Bool) (a : Act) (y : ObjectId) (as' : List Act) → Hides a → Has y (f as') → Has y (f (cond b (a ∷ as') as'))
  fewer_hidden b a y as' hides q = subst (Has y) (sym (pick b a as' hides)) q

  module _ (e : ClientId) (a : Act) (ds : List Deed) (own : Own f (record { client = e; act = a } ∷ ds)) where
    less_hidden : Hides a → Own f ds
    less_hidden hides c x q = own c x (fewer_hidden (same_client c e) a x (acts_of c ds) hides q)

    less_shown : (y : ObjectId) → Shows a y → Own f ds
    less_shown y shows c x q = own c x (fewer_shown (same_client c e) a y x (acts_of c ds) shows q)

    mine : (y : ObjectId) → Shows a y → y.client ≡ e
    mine y shows =
        own e y (subst (Has y) (sym (pick_shown (same_client e e) a y (acts_of e ds) shows)) (at_front (same_client e e) (same_client_self e)))
      where
        at_front : (b : Bool) → b ≡ true → Has y (cond b (y ∷ f (acts_of e ds)) (f (acts_of e ds)))
        at_front b t = subst (Has y) (sym (cond-true b (y ∷ f (acts_of e ds)) (f (acts_of e ds)) t)) (inl refl)

    hidden_on : (c : ClientId) (xs : List ObjectId) → Hides a → of c xs ≡ f (acts_of c ds) → of c xs ≡ f (acts_of c (record { client = e; act = a } ∷ ds))
    hidden_on c xs hides q = q ∙ sym (pick (same_client c e) a (acts_of c ds) hides)

    shown_on : (c : ClientId) (y : ObjectId) (xs : List ObjectId) → Shows a y → of c xs ≡ f (acts_of c ds) → of c (y ∷ xs) ≡ f (acts_of c (record { client = e; act = a } ∷ ds))
    shown_on c y xs shows q =
        of_same c e y xs (mine y shows)
        ∙ (ap (λ (zs : List ObjectId). cond (same_client c e) (y ∷ zs) zs) q ∙ sym (pick_shown (same_client c e) a y (acts_of c ds) shows))

-- the entries of a client are those made for it
pub entries_of : (c : ClientId) (ds : List Deed) → Own entries_in ds → of c (entries_in (acts_in ds)) ≡ entries_in (acts_of c ds)
entries_of c [] own = refl
entries_of c (d ∷ ds) own = go d.client d.act own (λ less. entries_of c ds less)
  where
    go : (e : ClientId) (a : Act) → Own entries_in (record { client = e; act = a } ∷ ds) → (Own entries_in ds → of c (entries_in (acts_in ds)) ≡ entries_in (acts_of c ds))
        → of c (entries_in (a ∷ acts_in ds)) ≡ entries_in (acts_of c (record { client = e; act = a } ∷ ds))
    go e (entered x) o more = shown_on entries_in e (entered x) ds o c x (entries_in (acts_in ds)) (λ as'. refl) (more (less_shown entries_in e (entered x) ds o x (λ as'. refl)))
    go e (ended t) o more = hidden_on entries_in e (ended t) ds o c (entries_in (acts_in ds)) (λ as'. refl) (more (less_hidden entries_in e (ended t) ds o (λ as'. refl)))
    go e (took t) o more = hidden_on entries_in e (took t) ds o c (entries_in (acts_in ds)) (λ as'. refl) (more (less_hidden entries_in e (took t) ds o (λ as'. refl)))
    go e (refused t) o more = hidden_on entries_in e (refused t) ds o c (entries_in (acts_in ds)) (λ as'. refl) (more (less_hidden entries_in e (refused t) ds o (λ as'. refl)))
    go e received o more = hidden_on entries_in e received ds o c (entries_in (acts_in ds)) (λ as'. refl) (more (less_hidden entries_in e received ds o (λ as'. refl)))
    go e flushed o more = hidden_on entries_in e flushed ds o c (entries_in (acts_in ds)) (λ as'. refl) (more (less_hidden entries_in e flushed ds o (λ as'. refl)))
    go e opened o more = hidden_on entries_in e opened ds o c (entries_in (acts_in ds)) (λ as'. refl) (more (less_hidden entries_in e opened ds o (λ as'. refl)))

-- and so are its ends
pub ends_of : (c : ClientId) (ds : List Deed) → Own told ds → of c (told (acts_in ds)) ≡ told (acts_of c ds)
ends_of c [] own = refl
ends_of c (d ∷ ds) own = go d.client d.act own (λ less. ends_of c ds less)
  where
    go : (e : ClientId) (a : Act) → Own told (record { client = e; act = a } ∷ ds) → (Own told ds → of c (told (acts_in ds)) ≡ told (acts_of c ds))
        → of c (told (a ∷ acts_in ds)) ≡ told (acts_of c (record { client = e; act = a } ∷ ds))
    go e (entered x) o more = hidden_on told e (entered x) ds o c (told (acts_in ds)) (λ as'. refl) (more (less_hidden told e (entered x) ds o (λ as'. refl)))
    go e (ended t) o more = shown_on told e (ended t) ds o c t.object (told (acts_in ds)) (λ as'. refl) (more (less_shown told e (ended t) ds o t.object (λ as'. refl)))
    go e (took t) o more = hidden_on told e (took t) ds o c (told (acts_in ds)) (λ as'. refl) (more (less_hidden told e (took t) ds o (λ as'. refl)))
    go e (refused t) o more = hidden_on told e (refused t) ds o c (told (acts_in ds)) (λ as'. refl) (more (less_hidden told e (refused t) ds o (λ as'. refl)))
    go e received o more = hidden_on told e received ds o c (told (acts_in ds)) (λ as'. refl) (more (less_hidden told e received ds o (λ as'. refl)))
    go e flushed o more = hidden_on told e flushed ds o c (told (acts_in ds)) (λ as'. refl) (more (less_hidden told e flushed ds o (λ as'. refl)))
    go e opened o more = hidden_on told e opened ds o c (told (acts_in ds)) (λ as'. refl) (more (less_hidden told e opened ds o (λ as'. refl)))

-- A handle among those of its client, and among all.

pub has_of : (x : ObjectId) (xs : List ObjectId) → Has x xs → Has x (of x.client xs)
has_of x [] q = q
has_of x (y ∷ ys) (inl e) =
    subst (λ (z : ObjectId). Has x (cond (same_client x.client z.client) (z ∷ of x.client ys) (of x.client ys))) e
    (subst (Has x) (sym (cond-true (same_client x.client x.client) (x ∷ of x.client ys) (of x.client ys) (same_client_self x.client))) (inl refl))
has_of x (y ∷ ys) (inr q) = go (same_client x.client y.client) (has_of x ys q)
  where
    go : (b : Bool) → Has x (of x.client ys) → Has x (cond b (y ∷ of x.client ys) (of x.client ys))
    go true r = inr r
    go false r = r

pub of_has : (c : ClientId) (x : ObjectId) (xs : List ObjectId) → Has x (of c xs) → Has x xs
of_has c x [] q = q
of_has c x (y ∷ ys) q = go (same_client c y.client) q (λ r. of_has c x ys r)
  where
    go : (b : Bool) → Has x (cond b (y ∷ of c ys) (of c ys)) → (Has x (of c ys) → Has x ys) → (x ≡ y) ⊎ Has x ys
    go true (inl e) more = inl e
    go true (inr r) more = inr (more r)
    go false r more = inr (more r)
