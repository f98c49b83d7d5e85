mod Trial
