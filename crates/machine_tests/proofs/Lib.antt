mod FirstCommit
